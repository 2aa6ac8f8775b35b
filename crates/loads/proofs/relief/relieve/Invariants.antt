-- `loads::relief::relieve` meets its contract. The loop keeps what `Relieving` says of the slots passed. Assumes nothing.
use Rattle.loads.specs.RelieveLaws.{Relieving}
use Rattle.loads.proofs.relief.relieve.Given as goal

abbrev pub invariant-loop-t : goal.invariant-loop-t
invariant-loop-t l = Relieving l.within l.initial.fed l.initial.rest l.high l.fed l.rest l.seen l.t
