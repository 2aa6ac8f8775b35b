-- `plan_order::slots::order_in_slot` meets its contract. The order of the tanks that are left is that of all. Assumes
-- nothing.
use Rattle.plan_order.proofs.SlotSteps.{Comparing}
use Rattle.plan_order.proofs.slots.order_in_slot.Given as goal

abbrev pub invariant-loop-i : goal.invariant-loop-i
invariant-loop-i l =
    (goal.iterator-loop-i).can_next l.i-iterator
    × (goal.iterator-loop-i).is_finite l.i-iterator
    × Comparing l.numbers l.others l.word l.other l.i-iterator.rest l.other_bits.rest
