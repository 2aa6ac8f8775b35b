-- `plan_lines::feed_lines::add_parts` meets its contract. The parts, with the bits that are left, are those asked for.
-- Assumes nothing.
use Rattle.plan_lines.specs.FeedSteps.{AddingParts}
use Rattle.plan_lines.proofs.feed_lines.add_parts.Given as goal

abbrev pub invariant-loop-j : goal.invariant-loop-j
invariant-loop-j l =
    (goal.iterator-loop-j).can_next l.j-iterator
    × (goal.iterator-loop-j).is_finite l.j-iterator
    × AddingParts l.word l.j-iterator.rest l.initial.parts l.parts
