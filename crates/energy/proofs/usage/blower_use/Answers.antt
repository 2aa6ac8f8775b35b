-- `energy::usage::blower_use` meets its contract. What is counted before a stretch, with what is left, is all. Assumes nothing.
use Rattle.std.specs.Prelude.{refl}
use Rattle.std.proofs.Common.{arith, ap, ◌∙◌}
use Rattle.energy.specs.Left.{left}
use Rattle.energy.specs.UsageSteps.{used_begin, used_more, used_few, used_end}
use Rattle.energy.proofs.usage.blower_use.Goals as goal

pub loop-stretch-init : goal.loop-stretch-init
loop-stretch-init c =
    (tt, tt, used_begin (ap left c.into_iter-stretch-iterator.ensures.into_iter_gives ∙ c.stretches-stretch-items.ensures))

pub overflow_add-on : goal.overflow_add-on
overflow_add-on c =
    omega (
      arith,
      (used_few (used_more c.loop-stretch.invariant.2 c.in-Some.ensures.steps c.slots.ensures c.on_in-on.ensures refl)).0,
      c.args.day.now.in_day,
    )

pub overflow_add-starts : goal.overflow_add-starts
overflow_add-starts c =
    omega (
      arith,
      (used_few (used_more c.loop-stretch.invariant.2 c.in-Some.ensures.steps c.slots.ensures c.on_in-on.ensures c.start_at-starts.ensures)).1,
      c.args.day.now.in_day,
    )

pub loop-stretch-preserved : goal.loop-stretch-preserved
loop-stretch-preserved c =
    (tt, tt, used_more c.loop-stretch.invariant.2 c.in-Some.ensures.steps c.slots.ensures c.on_in-on.ensures c.start_at-starts.ensures)

pub returns : goal.returns
returns c = used_end c.loop-stretch.invariant.2 c.in-None.ensures.steps.0
