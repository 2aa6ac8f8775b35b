-- `plan_lines::stretch_lines::put_blower` meets its contract. The lines put, with those of the stretches that are left,
-- are all. Assumes nothing.
use Rattle.std.proofs.Common.{ap, ◌∙◌, arith}
use Rattle.energy.specs.Left.{left}
use Rattle.plan_lines.specs.StretchSteps.{blower_begin, blower_room, blower_more, blower_end}
use Rattle.plan_lines.proofs.stretch_lines.put_blower.Goals as goal

pub loop-stretch-init : goal.loop-stretch-init
loop-stretch-init c =
    (tt, tt, blower_begin c.requires (ap left c.into_iter-stretch-iterator.ensures.into_iter_gives ∙ c.stretches-stretch-items.ensures))

pub overflow_mul-n : goal.overflow_mul-n
overflow_mul-n c = omega (arith, blower_room c.requires c.loop-stretch.invariant.2 c.in-Some.ensures.steps)

pub overflow_add-at : goal.overflow_add-at
overflow_add-at c = omega (arith, blower_room c.requires c.loop-stretch.invariant.2 c.in-Some.ensures.steps)

pub put_line-requires : goal.put_line-requires
put_line-requires c = blower_room c.requires c.loop-stretch.invariant.2 c.in-Some.ensures.steps

pub overflow_add-n : goal.overflow_add-n
overflow_add-n c = omega (arith, blower_room c.requires c.loop-stretch.invariant.2 c.in-Some.ensures.steps)

pub loop-stretch-preserved : goal.loop-stretch-preserved
loop-stretch-preserved c = (tt, tt, blower_more c.requires c.loop-stretch.invariant.2 c.in-Some.ensures.steps c.from.ensures c.put_line.ensures)

pub shape_of-out : goal.shape_of-out
shape_of-out c = c.loop-stretch.invariant.2.putting.same_length

pub returns : goal.returns
returns c = blower_end c.requires c.loop-stretch.invariant.2 c.in-None.ensures.steps.0
