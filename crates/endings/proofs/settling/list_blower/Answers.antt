-- `endings::settling::list_blower` meets its contract. Assumes nothing.
use Rattle.endings.specs.ListingSteps.{blower_advance, blower_end}
use Rattle.endings.proofs.settling.list_blower.Goals as goal

pub advance-progress-requires : goal.advance-progress-requires
advance-progress-requires c = blower_advance c.loop-t.invariant c.loop-t-test.true

pub returns : goal.returns
returns c = blower_end c.loop-t.invariant c.loop-t-test.false
