-- `plan_lines::feed_lines::put_slot` meets its contract. The lines put, with those of the bits that are left, are all.
-- Assumes nothing.
use Rattle.plan_lines.specs.FeedSteps.{SlotPut}
use Rattle.plan_lines.proofs.feed_lines.put_slot.Given as goal

abbrev pub invariant-loop-j : goal.invariant-loop-j
invariant-loop-j l =
    (goal.iterator-loop-j).can_next l.j-iterator
    × (goal.iterator-loop-j).is_finite l.j-iterator
    × SlotPut l.slot l.word l.numbers l.parts l.at l.initial.out l.out l.n l.j-iterator.rest
