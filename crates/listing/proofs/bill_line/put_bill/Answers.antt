-- `listing::bill_line::put_bill` meets its contract. Assumes nothing.
use Rattle.listing.specs.PlanSteps.{bill_put}
use Rattle.listing.proofs.bill_line.put_bill.Goals as goal

pub day_charge-tenths-requires : goal.day_charge-tenths-requires
day_charge-tenths-requires c = c.requires.charged

pub put_line-requires : goal.put_line-requires
put_line-requires c = c.requires.room

pub returns : goal.returns
returns c = bill_put _ _ _ _ _ _ _ _ c.day_charge-tenths.ensures c.amount_of-amount.ensures c.put_line.ensures
