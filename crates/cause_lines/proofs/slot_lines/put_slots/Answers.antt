-- `cause_lines::slot_lines::put_slots` meets its contract. The lines put, with those of the bits that are left, are
-- all. Assumes nothing.
use Rattle.std.specs.Prelude.{◌≡◌}
use Rattle.std.proofs.Common.{ap, ◌∙◌}
use Rattle.bits.specs.Lowest.{lowest_some}
use Rattle.bits.specs.declared.iterating.SetBits.{SetBits}
use Rattle.cause_lines.specs.SlotLaws.{slots_begin, slots_room, slots_more, slots_end}
use Rattle.cause_lines.proofs.slot_lines.put_slots.Goals as goal

pub loop-j-init : goal.loop-j-init
loop-j-init c =
    let all : c.into_iter-j-iterator.result.rest ≡ c.args.word = ap (λ (s : SetBits). s.rest) c.into_iter-j-iterator.ensures.into_iter_gives ∙ c.set_bits-j-items.ensures in
    (tt, tt, rw all (slots_begin c.args.from c.args.word c.args.at c.args.out.now c.requires c.ranges.word.fits))

pub put_line-requires : goal.put_line-requires
put_line-requires c =
    slots_room c.args.from c.args.word c.args.at c.args.out.now c.requires c.loop-j.n c.loop-j.j-iterator.rest c.loop-j.out c.loop-j.invariant.2
    (lowest_some c.in-Some.ensures.steps.0) _ c.in-Some.ensures.steps.0

pub loop-j-preserved : goal.loop-j-preserved
loop-j-preserved c = (
  tt,
  tt,
  slots_more c.args.from c.args.word c.args.at c.args.out.now c.requires c.loop-j.n c.loop-j.j-iterator.rest c.loop-j.out c.loop-j.invariant.2
      (lowest_some c.in-Some.ensures.steps.0) _ c.in-Some.ensures.steps.0 _ _ c.in-Some.ensures.steps.1 c.put_line.ensures,
)

pub returns : goal.returns
returns c =
    slots_end c.args.from c.args.word c.args.at c.args.out.now c.requires c.loop-j.n c.loop-j.j-iterator.rest c.loop-j.out c.loop-j.invariant.2
    c.in-None.ensures.steps.0
