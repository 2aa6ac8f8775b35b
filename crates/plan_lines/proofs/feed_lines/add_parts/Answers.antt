-- `plan_lines::feed_lines::add_parts` meets its contract. The parts, with the bits that are left, are those asked for.
-- Assumes nothing.
use Rattle.std.specs.Prelude.{◌≡◌}
use Rattle.std.proofs.Common.{ap, ◌∙◌, arith}
use Rattle.bits.specs.declared.iterating.SetBits.{SetBits}
use Rattle.plan_lines.proofs.FeedSteps.{parts_begin, parts_few, parts_more, parts_end}
use Rattle.plan_lines.proofs.feed_lines.add_parts.Goals as goal

pub loop-j-init : goal.loop-j-init
loop-j-init c =
    let all : c.into_iter-j-iterator.result.rest ≡ c.args.word = ap (λ (s : SetBits). s.rest) c.into_iter-j-iterator.ensures.into_iter_gives ∙ c.set_bits-j-items.ensures in
    (tt, tt, rw all (parts_begin c.requires c.ranges.word.fits))

pub offset_bounds-parts-j : goal.offset_bounds-parts-j
offset_bounds-parts-j c = omega (arith, c.in-Some.ensures.steps.0.below)

pub bounds-parts-j : goal.bounds-parts-j
bounds-parts-j c = omega (arith, c.in-Some.ensures.steps.0.below)

pub overflow_add-parts : goal.overflow_add-parts
overflow_add-parts c =
    omega (arith, parts_few c.requires c.loop-j.invariant.2 c.in-Some.ensures.steps.0)

pub loop-j-preserved : goal.loop-j-preserved
loop-j-preserved c =
    (tt, tt, parts_more c.requires c.loop-j.invariant.2 c.in-Some.ensures.steps.0 c.in-Some.ensures.steps.1)

pub returns : goal.returns
returns c = parts_end c.requires c.loop-j.invariant.2 c.in-None.ensures.steps.0
