-- `plan_lines::stretch_lines::put_stretches` meets its contract. The lines put, with those of the blowers that are
-- left, are all. Assumes nothing.
use Rattle.std.proofs.Common.{arith}
use Rattle.plan_lines.specs.StretchSteps.{stretches_begin, stretches_room, stretches_more, stretches_end}
use Rattle.plan_lines.proofs.stretch_lines.put_stretches.Goals as goal

pub loop-blower-init : goal.loop-blower-init
loop-blower-init c = stretches_begin c.requires

pub overflow_mul-n : goal.overflow_mul-n
overflow_mul-n c = omega (arith, stretches_room c.requires c.loop-blower.invariant c.loop-blower-test.true)

pub overflow_add-at : goal.overflow_add-at
overflow_add-at c = omega (arith, stretches_room c.requires c.loop-blower.invariant c.loop-blower-test.true)

pub put_blower-n-requires : goal.put_blower-n-requires
put_blower-n-requires c = stretches_room c.requires c.loop-blower.invariant c.loop-blower-test.true

pub overflow_add-n : goal.overflow_add-n
overflow_add-n c =
    omega (
      arith,
      (stretches_more c.requires c.loop-blower.invariant c.loop-blower-test.true c.put_blower-n.ensures).putting.number,
      c.requires.room,
    )

pub loop-blower-preserved : goal.loop-blower-preserved
loop-blower-preserved c = stretches_more c.requires c.loop-blower.invariant c.loop-blower-test.true c.put_blower-n.ensures

pub shape_of-out : goal.shape_of-out
shape_of-out c = c.loop-blower.invariant.putting.same_length

pub returns : goal.returns
returns c = stretches_end c.requires c.loop-blower.invariant c.loop-blower-test.false

pub returns-2 : goal.returns-2
returns-2 c =
    stretches_end c.requires (stretches_more c.requires c.loop-blower.invariant c.loop-blower-test.true c.put_blower-n.ensures) (omega arith)
