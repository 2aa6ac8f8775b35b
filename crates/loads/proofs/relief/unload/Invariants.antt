-- `loads::relief::unload` meets its contract. The loop keeps what `Unloading` says; the measure is the load of slot t, which each search lessens.
-- Assumes nothing.
use Rattle.grid.specs.Grid.{load}
use Rattle.loads.specs.UnloadLaws.{Unloading}
use Rattle.loads.proofs.relief.unload.Given as goal

abbrev pub invariant-loop-marks : goal.invariant-loop-marks
invariant-loop-marks l = Unloading l.initial.fed l.initial.rest l.high l.initial.seen l.fed l.rest l.seen

abbrev pub decreases-loop-marks : goal.decreases-loop-marks
decreases-loop-marks l = load l.fed l.t
