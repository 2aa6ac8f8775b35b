-- `cause_lines::slot_lines::put_slots` meets its contract. The lines put, with those of the bits that are left, are
-- all. Assumes nothing.
use Rattle.cause_lines.specs.SlotLaws.{SlotsPut}
use Rattle.cause_lines.proofs.slot_lines.put_slots.Given as goal

abbrev pub invariant-loop-j : goal.invariant-loop-j
invariant-loop-j l =
    (goal.iterator-loop-j).can_next l.j-iterator
    × (goal.iterator-loop-j).is_finite l.j-iterator
    × SlotsPut l.from l.word l.at l.initial.out l.out l.n l.j-iterator.rest
