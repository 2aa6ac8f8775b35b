-- `bill::rates::amount_of` meets its contract. Assumes nothing.
use Rattle.bill.proofs.AmountLaws.{amount_of_split}
use Rattle.bill.proofs.rates.amount_of.Goals as goal

pub returns : goal.returns
returns c = amount_of_split _
