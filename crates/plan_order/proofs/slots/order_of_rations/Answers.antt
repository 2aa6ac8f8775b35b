-- `plan_order::slots::order_of_rations` meets its contract. Assumes nothing.
use Rattle.std.proofs.Common.{ap, ◌∙◌}
use Rattle.plan_lines.specs.Inputs.{tank_at}
use Rattle.plan_order.specs.Clauses.{as_order}
use Rattle.plan_order.proofs.OrderLaws.{compared}
use Rattle.plan_order.proofs.slots.order_of_rations.Goals as goal

pub returns : goal.returns
returns c = ap as_order c.cmp.ensures ∙ compared (tank_at c.args.numbers.now c.args.i) (tank_at c.args.others.now c.args.j)
