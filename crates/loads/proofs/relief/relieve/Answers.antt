-- `loads::relief::relieve` meets its contract. The loop keeps what `Relieving` says of the slots passed. Assumes nothing.
use native.Mathlib.Omega.{arith}
use Rattle.loads.specs.RelieveLaws.{relieving_start, relieving_next}
use Rattle.loads.proofs.relief.relieve.Goals as goal

pub loop-t-init : goal.loop-t-init
loop-t-init c = relieving_start c.requires

pub loop-t-preserved : goal.loop-t-preserved
loop-t-preserved c = relieving_next c.requires c.loop-t.invariant (omega (arith, c.loop-t-test.true)) c.unload-within.ensures
