-- `stretches::intervals::stretch_end` meets its contract. The loop passes the slots of the stretch. Assumes nothing.
use Rattle.std.specs.Prelude.{◌≡◌, List, ℕ, ◌<◌, length, not}
use Rattle.std.specs.Bool.{beq}
use Rattle.std.proofs.Common.{ap, subst, sym, ◌∙◌, arith}
use Rattle.method.specs.FrontRunLaws.{EndsAt}
use Rattle.stretches.specs.FrontRunSteps.{CanScan, within_begin, within_more, ends_changed, ends_day, beq_turned}
use Rattle.stretches.proofs.intervals.stretch_end.Goals as goal

can : (counts : List ℕ) (from : ℕ) → from < length counts → CanScan counts (length counts) from
can counts from h = record { long = omega arith; in_day = h }

pub loop-end-init : goal.loop-end-init
loop-end-init c = within_begin c.args.counts.now (length c.args.counts.now) c.args.blower c.args.from _ (can _ _ c.requires) c.is_busy-busy.ensures

pub returns-then-is_busy-busy : goal.returns-then-is_busy-busy
returns-then-is_busy-busy c =
    ends_changed c.args.counts.now (length c.args.counts.now) c.args.blower c.args.from _ (can _ _ c.requires) _ c.loop-end.invariant c.loop-end-test.true
    (ap (beq c.is_busy-busy.result) (sym c.is_busy.ensures) ∙ beq_turned c.is_busy-busy.result c.is_busy.result ∙ ap not c.if-is_busy-busy.true)

pub loop-end-preserved : goal.loop-end-preserved
loop-end-preserved c =
    within_more c.args.counts.now (length c.args.counts.now) c.args.blower c.args.from _ (can _ _ c.requires) _ c.loop-end.invariant c.loop-end-test.true
    (ap (beq c.is_busy-busy.result) (sym c.is_busy.ensures) ∙ beq_turned c.is_busy-busy.result c.is_busy.result ∙ ap not c.if-is_busy-busy.false)

pub returns : goal.returns
returns c =
    let e : c.loop-end.end ≡ (length c.args.counts.now) = omega (arith, c.loop-end-test.false, c.requires) in
    subst (λ x. EndsAt c.args.counts.now (length c.args.counts.now) c.args.blower c.args.from x) e
    (ends_day c.args.counts.now (length c.args.counts.now) c.args.blower c.args.from _ (can _ _ c.requires) _ c.loop-end.invariant (omega (arith, c.loop-end-test.false)))
