-- `plan_order::days::order_of_days` meets its contract. The slots looked at so far have the same tanks. Assumes
-- nothing.
use mathlib.Core.Path.{sym, ap, ◌∙◌}
use native.Mathlib.Omega.{arith}
use Rattle.plan_order.specs.Clauses.{as_order}
use Rattle.plan_order.proofs.OrderLaws.{compared, ordering_differs}
use Rattle.plan_order.proofs.DaySteps.{slots_differ, lists_differ, same_end}
use Rattle.plan_order.proofs.days.order_of_days.Goals as goal

pub returns-then-is_ne : goal.returns-then-is_ne
returns-then-is_ne c = c.from.ensures ∙ slots_differ c.args.one.now.slots c.args.other.now.slots c.args.one.now.numbers.now c.args.one.now.fed.now c.args.other.now.numbers.now c.args.other.now.fed.now (ap as_order c.cmp-by_slots.ensures ∙ compared c.args.one.now.slots c.args.other.now.slots) (ordering_differs _ ∙ sym c.is_ne.ensures ∙ c.if-is_ne.true)

pub returns-then-is_ne-2 : goal.returns-then-is_ne-2
returns-then-is_ne-2 c = c.from-then-is_ne-2.ensures ∙ lists_differ c.args.one.now.slots c.args.other.now.slots c.args.one.now.numbers.now c.args.one.now.fed.now c.args.other.now.numbers.now c.args.other.now.fed.now (ap as_order c.cmp-by_slots.ensures ∙ compared c.args.one.now.slots c.args.other.now.slots) (ordering_differs _ ∙ sym c.is_ne.ensures ∙ c.if-is_ne.false) (omega arith) c.loop-t.invariant c.order_in_slot-by_tanks.ensures (ordering_differs _ ∙ sym c.is_ne-in-loop-t.ensures ∙ c.if-is_ne-2.true)

pub returns : goal.returns
returns c = same_end c.args.one.now.slots c.args.other.now.slots c.args.one.now.numbers.now c.args.one.now.fed.now c.args.other.now.numbers.now c.args.other.now.fed.now (ap as_order c.cmp-by_slots.ensures ∙ compared c.args.one.now.slots c.args.other.now.slots) (ordering_differs _ ∙ sym c.is_ne.ensures ∙ c.if-is_ne.false) (omega arith) c.loop-t.invariant
