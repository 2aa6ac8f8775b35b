-- `plan_lines::stretch_lines::put_stretches` meets its contract. The lines put, with those of the blowers that are
-- left, are all. Assumes nothing.
use Rattle.plan_lines.specs.StretchSteps.{StretchesPut}
use Rattle.plan_lines.proofs.stretch_lines.put_stretches.Given as goal

abbrev pub invariant-loop-blower : goal.invariant-loop-blower
invariant-loop-blower l = StretchesPut l.day.wake l.day.counts.now l.blowers l.blower l.at l.initial.out l.out l.n
