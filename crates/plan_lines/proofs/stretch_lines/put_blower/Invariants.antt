-- `plan_lines::stretch_lines::put_blower` meets its contract. The lines put, with those of the stretches that are left,
-- are all. Assumes nothing.
use Rattle.energy.specs.Left.{left}
use Rattle.plan_lines.specs.StretchSteps.{BlowerPut}
use Rattle.plan_lines.proofs.stretch_lines.put_blower.Given as goal

abbrev pub invariant-loop-stretch : goal.invariant-loop-stretch
invariant-loop-stretch l =
    (goal.iterator-loop-stretch).can_next l.stretch-iterator
    × (goal.iterator-loop-stretch).is_finite l.stretch-iterator
    × BlowerPut l.day.wake l.day.counts.now l.blower l.at l.initial.out l.out l.n (left l.stretch-iterator)
