-- `endings::settling::advance` meets its contract. Assumes nothing.
use Rattle.endings.specs.ListingSteps.{advanced_stays, advanced_ends}
use Rattle.endings.proofs.settling.advance.Goals as goal

pub returns-in_default : goal.returns-in_default
returns-in_default c = advanced_stays c.requires (rw c.in_default.is at c.step.ensures)

pub returns : goal.returns
returns c = advanced_ends c.requires (rw c.in-Err.is at c.step.ensures) c.append-extent.ensures
