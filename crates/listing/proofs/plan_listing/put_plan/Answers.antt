-- `listing::plan_listing::put_plan` meets its contract. The head line is put last, when the numbers of lines are known. Assumes nothing.
use native.Mathlib.Omega.{arith}
use Rattle.listing.specs.PlanSteps.{plan_can_charge, plan_can_stretches, plan_stretches_few, plan_can_feedings, plan_feedings_put, plan_feedings_few, plan_can_bill, plan_room, plan_written}
use Rattle.listing.proofs.plan_listing.put_plan.Goals as goal

pub put_stretches-stretches-requires : goal.put_stretches-stretches-requires
put_stretches-stretches-requires c = plan_can_stretches c.requires c.put_word.ensures

pub overflow_mul-stretches : goal.overflow_mul-stretches
overflow_mul-stretches c = omega (arith, plan_stretches_few c.requires c.put_word.ensures c.put_stretches-stretches.ensures)

pub overflow_add-at-2 : goal.overflow_add-at-2
overflow_add-at-2 c = omega (arith, plan_stretches_few c.requires c.put_word.ensures c.put_stretches-stretches.ensures)

pub put_feedings-feedings-requires : goal.put_feedings-feedings-requires
put_feedings-feedings-requires c = plan_can_feedings c.requires c.put_word.ensures c.put_stretches-stretches.ensures

pub overflow_add-end : goal.overflow_add-end
overflow_add-end c = omega (arith, plan_stretches_few c.requires c.put_word.ensures c.put_stretches-stretches.ensures, plan_feedings_few c.requires c.put_word.ensures c.put_stretches-stretches.ensures (plan_feedings_put c.requires c.put_feedings-feedings.ensures))

pub overflow_mul-end : goal.overflow_mul-end
overflow_mul-end c = omega (arith, plan_stretches_few c.requires c.put_word.ensures c.put_stretches-stretches.ensures, plan_feedings_few c.requires c.put_word.ensures c.put_stretches-stretches.ensures (plan_feedings_put c.requires c.put_feedings-feedings.ensures))

pub overflow_add-end-2 : goal.overflow_add-end-2
overflow_add-end-2 c = omega (arith, plan_stretches_few c.requires c.put_word.ensures c.put_stretches-stretches.ensures, plan_feedings_few c.requires c.put_word.ensures c.put_stretches-stretches.ensures (plan_feedings_put c.requires c.put_feedings-feedings.ensures))

pub put_bill-requires : goal.put_bill-requires
put_bill-requires c = plan_can_bill c.requires c.put_word.ensures c.put_stretches-stretches.ensures (plan_feedings_put c.requires c.put_feedings-feedings.ensures)

pub day_use-used-requires : goal.day_use-used-requires
day_use-used-requires c = plan_can_charge c.requires

pub overflow_cast-stretches : goal.overflow_cast-stretches
overflow_cast-stretches c = omega (arith, plan_stretches_few c.requires c.put_word.ensures c.put_stretches-stretches.ensures)

pub overflow_cast-feedings : goal.overflow_cast-feedings
overflow_cast-feedings c = omega (arith, plan_feedings_few c.requires c.put_word.ensures c.put_stretches-stretches.ensures (plan_feedings_put c.requires c.put_feedings-feedings.ensures))

pub put_line-requires : goal.put_line-requires
put_line-requires c = plan_room c.requires c.put_word.ensures c.put_stretches-stretches.ensures (plan_feedings_put c.requires c.put_feedings-feedings.ensures) c.put_bill.ensures

pub overflow_add-result : goal.overflow_add-result
overflow_add-result c = omega (arith, plan_stretches_few c.requires c.put_word.ensures c.put_stretches-stretches.ensures, plan_feedings_few c.requires c.put_word.ensures c.put_stretches-stretches.ensures (plan_feedings_put c.requires c.put_feedings-feedings.ensures))

pub returns : goal.returns
returns c = plan_written c.requires c.put_word.ensures c.put_stretches-stretches.ensures (plan_feedings_put c.requires c.put_feedings-feedings.ensures) c.put_bill.ensures c.day_use-used.ensures c.put_line.ensures
