-- `loads::first::feed_pass` meets its contract. The loop keeps what `Passing` says of the slots passed. Assumes nothing.
use native.Mathlib.Omega.{arith}
use Rattle.loads.specs.FirstLaws.{passing_next}
use Rattle.loads.proofs.first.feed_pass.Goals as goal

pub loop-t-preserved : goal.loop-t-preserved
loop-t-preserved c = passing_next c.requires c.loop-t.invariant (omega (arith, c.loop-t-test.true)) c.feed_slot-n.ensures
