-- `stretches::intervals::stretch_end` meets its contract. The loop passes the slots of the stretch. Assumes nothing.
use Rattle.std.proofs.Common.{length}
use Rattle.stretches.specs.FrontRunSteps.{Within}
use Rattle.stretches.proofs.intervals.stretch_end.Given as goal

abbrev pub invariant-loop-end : goal.invariant-loop-end
invariant-loop-end l = Within l.counts (length l.counts) l.blower l.from l.end l.busy
