-- `plan_order::days::order_of_days` meets its contract. The slots looked at so far have the same tanks. Assumes
-- nothing.
use Rattle.plan_order.proofs.DaySteps.{SameBefore}
use Rattle.plan_order.proofs.days.order_of_days.Given as goal

abbrev pub invariant-loop-t : goal.invariant-loop-t
invariant-loop-t l = SameBefore l.t l.one.numbers.now l.one.fed.now l.other.numbers.now l.other.fed.now
