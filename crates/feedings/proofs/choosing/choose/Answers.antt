-- `feedings::choosing::choose` meets its contract. The loop keeps what `InDay` says of the slots passed. Assumes nothing.
use Rattle.std.proofs.Common.{refl, ◌∙◌}
use Rattle.feedings.specs.FeedingLoopLaws.{in_day_start, in_day_next}
use Rattle.feedings.proofs.choosing.choose.Goals as goal

pub loop-t-init : goal.loop-t-init
loop-t-init c = (in_day_start c.requires, refl)

pub loop-t-preserved : goal.loop-t-preserved
loop-t-preserved c = (in_day_next c.requires c.loop-t.invariant.0 c.loop-t-test.true c.choose_slot.ensures.chose, c.choose_slot.ensures.spares ∙ c.loop-t.invariant.1)
