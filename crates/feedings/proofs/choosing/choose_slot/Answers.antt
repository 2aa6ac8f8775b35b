-- `feedings::choosing::choose_slot` meets its contract. The loop keeps what `InSlot` says of the rations passed.
-- Assumes nothing.
use Rattle.std.proofs.Common.{refl, ◌∙◌}
use Rattle.feedings.specs.FeedingLoopLaws.{in_slot_start, in_slot_next, chose_slot}
use Rattle.feedings.proofs.choosing.choose_slot.Goals as goal

pub loop-j-init : goal.loop-j-init
loop-j-init c = (in_slot_start c.requires c.fed_somewhere-may.ensures, refl)

pub loop-j-preserved : goal.loop-j-preserved
loop-j-preserved c = (in_slot_next c.requires c.loop-j.invariant.0 c.loop-j-test.true c.feed_bit-word.ensures.fed_bit, c.feed_bit-word.ensures.spares ∙ c.loop-j.invariant.1)

pub returns : goal.returns
returns c = record { chose = chose_slot c.requires c.loop-j.invariant.0 c.loop-j-test.false; spares = c.loop-j.invariant.1 }
