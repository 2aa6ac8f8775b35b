-- `loads::first::place_again` meets its contract. The loop keeps what `PlacingAgain` says of the rations passed.
-- Assumes nothing.
use native.Mathlib.Omega.{arith}
use Rattle.loads.specs.FirstLaws.{again_ration}
use Rattle.loads.proofs.first.place_again.Goals as goal

pub set_volume-requires : goal.set_volume-requires
set_volume-requires c = again_ration c.requires c.loop-j.invariant (omega (arith, c.loop-j-test.true))
