-- `loads::relief::unload` meets its contract. The loop keeps what `Unloading` says; the measure is the load of slot t, which each search lessens.
-- Assumes nothing.
use mathlib.Core.Path.{sym, ◌∙◌}
use borrow.Author.Tests.{ltb-true}
use Rattle.loads.specs.UnloadLaws.{unloaded_lost, unloading_less, unloading_next}
use Rattle.loads.proofs.relief.unload.Goals as goal

pub returns-then-not-push : goal.returns-then-not-push
returns-then-not-push c = unloaded_lost c.requires c.loop-marks.invariant
    (ltb-true _ _ (sym c.is_over.ensures ∙ c.loop-marks-test.true)) c.push.ensures (c.if-not-push.true)

pub loop-marks-smaller : goal.loop-marks-smaller
loop-marks-smaller c = unloading_less c.requires c.loop-marks.invariant
    (ltb-true _ _ (sym c.is_over.ensures ∙ c.loop-marks-test.true)) c.push.ensures (c.if-not-push.false)

pub loop-marks-preserved : goal.loop-marks-preserved
loop-marks-preserved c = unloading_next c.requires c.loop-marks.invariant
    (ltb-true _ _ (sym c.is_over.ensures ∙ c.loop-marks-test.true)) c.push.ensures (c.if-not-push.false) c.if-seen-t-ne0.false
