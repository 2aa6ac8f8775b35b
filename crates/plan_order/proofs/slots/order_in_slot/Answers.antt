-- `plan_order::slots::order_in_slot` meets its contract. The order of the tanks that are left is that of all. Assumes
-- nothing.
use Rattle.std.proofs.Common.{sym, ◌∙◌}
use Rattle.bits.specs.Lowest.{lowest_some}
use Rattle.plan_order.proofs.OrderLaws.{ordering_differs}
use Rattle.plan_order.proofs.SlotSteps.{both_end, first_ends, second_ends, tanks_differ, comparing_more}
use Rattle.plan_order.proofs.slots.order_in_slot.Goals as goal

pub returns-in_default : goal.returns-in_default
returns-in_default c = second_ends c.args.numbers.now c.args.others.now c.args.word c.args.other c.loop-i.invariant.2 (lowest_some c.in-Some.ensures.steps.0) c.in_default.ensures.steps.0

pub returns-then-is_ne : goal.returns-then-is_ne
returns-then-is_ne c = tanks_differ c.args.numbers.now c.args.others.now c.args.word c.args.other c.loop-i.invariant.2 (lowest_some c.in-Some.ensures.steps.0) (lowest_some c.in-Some-next.ensures.steps.0) c.in-Some.ensures.steps.0 c.in-Some-next.ensures.steps.0 c.order_of_rations-order.ensures (ordering_differs _ ∙ sym c.is_ne.ensures ∙ c.if-is_ne.true)

pub loop-i-preserved : goal.loop-i-preserved
loop-i-preserved c = (tt, tt, comparing_more c.args.numbers.now c.args.others.now c.args.word c.args.other c.loop-i.invariant.2 (lowest_some c.in-Some.ensures.steps.0) (lowest_some c.in-Some-next.ensures.steps.0) c.in-Some.ensures.steps.0 c.in-Some-next.ensures.steps.0 c.order_of_rations-order.ensures (ordering_differs _ ∙ sym c.is_ne.ensures ∙ c.if-is_ne.false) c.in-Some.ensures.steps.1 c.in-Some-next.ensures.steps.1)

pub returns-in-Some-next-2 : goal.returns-in-Some-next-2
returns-in-Some-next-2 c = first_ends c.args.numbers.now c.args.others.now c.args.word c.args.other c.loop-i.invariant.2 c.in-None.ensures.steps.0 (lowest_some c.in-Some-next-2.ensures.steps.0)

pub returns-in-None-next : goal.returns-in-None-next
returns-in-None-next c = both_end c.args.numbers.now c.args.others.now c.args.word c.args.other c.loop-i.invariant.2 c.in-None.ensures.steps.0 c.in-None-next.ensures.steps.0
