-- `plan_lines::feed_lines::put_slot` meets its contract. The lines put, with those of the bits that are left, are all.
-- Assumes nothing.
use Rattle.std.specs.Prelude.{◌≡◌}
use Rattle.std.proofs.Common.{ap, ◌∙◌, arith}
use Rattle.bits.specs.declared.iterating.SetBits.{SetBits}
use Rattle.plan_lines.proofs.FeedSteps.{slot_begin, slot_few, feeding_can, slot_more, slot_end}
use Rattle.plan_lines.proofs.feed_lines.put_slot.Goals as goal

pub loop-j-init : goal.loop-j-init
loop-j-init c =
    let all : c.into_iter-j-iterator.result.rest ≡ c.args.word = ap (λ (s : SetBits). s.rest) c.into_iter-j-iterator.ensures.into_iter_gives ∙ c.set_bits-j-items.ensures in
    (tt, tt, rw all (slot_begin c.requires c.ranges.word.fits))

pub overflow_mul-n : goal.overflow_mul-n
overflow_mul-n c = omega (arith, slot_few c.requires c.loop-j.invariant.2)

pub overflow_add-at : goal.overflow_add-at
overflow_add-at c = omega (arith, (feeding_can c.requires c.loop-j.invariant.2 c.in-Some.ensures.steps.0).room)

pub overflow_cast-n : goal.overflow_cast-n
overflow_cast-n c = omega (arith, slot_few c.requires c.loop-j.invariant.2)

pub overflow_add-n : goal.overflow_add-n
overflow_add-n c = omega (arith, slot_few c.requires c.loop-j.invariant.2)

pub put_feeding-requires : goal.put_feeding-requires
put_feeding-requires c = feeding_can c.requires c.loop-j.invariant.2 c.in-Some.ensures.steps.0

pub overflow_add-n-in-loop-j : goal.overflow_add-n-in-loop-j
overflow_add-n-in-loop-j c = omega (arith, slot_few c.requires c.loop-j.invariant.2)

pub loop-j-preserved : goal.loop-j-preserved
loop-j-preserved c =
    (tt, tt, slot_more c.requires c.loop-j.invariant.2 c.in-Some.ensures.steps.0 c.in-Some.ensures.steps.1 c.put_feeding.ensures)

pub shape_of-out : goal.shape_of-out
shape_of-out c = c.loop-j.invariant.2.putting.same_length

pub returns : goal.returns
returns c = slot_end c.requires c.loop-j.invariant.2 c.in-None.ensures.steps.0
