-- `energy::usage::blower_use` meets its contract. What is counted before a stretch, with what is left, is all. Assumes nothing.
use Rattle.energy.specs.Listed.{number_of}
use Rattle.energy.specs.Left.{left}
use Rattle.energy.specs.UsageSteps.{Used}
use Rattle.energy.proofs.usage.blower_use.Given as goal

abbrev pub invariant-loop-stretch : goal.invariant-loop-stretch
invariant-loop-stretch l =
    (goal.iterator-loop-stretch).can_next l.stretch-iterator
    × (goal.iterator-loop-stretch).is_finite l.stretch-iterator
    × Used l.day.wake l.day.counts.now l.blower (number_of l.before) l.on l.starts (left l.stretch-iterator)
