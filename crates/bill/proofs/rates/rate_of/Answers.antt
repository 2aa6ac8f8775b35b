-- `bill::rates::rate_of` meets its contract: the table is the list of rates. Assumes nothing.
use Rattle.std.proofs.Common.{rules}
use Rattle.bill.specs.Bill.{rates, hour_of, rate_of}
use Rattle.bill.proofs.rates.rate_of.Goals as goal

pub returns : goal.returns
unfolding rate_of rates hour_of
returns c = search rules
