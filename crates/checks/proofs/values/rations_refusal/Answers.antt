-- `checks::values::rations_refusal` meets its contract. Assumes nothing.
use mathlib.Core.Path.{refl, sym, ap, ◌∙◌}
use Prim.Native.Nat.{◌+◌}
use Rattle.std.proofs.Common.{arith}
use Rattle.std.proofs.lemmas.Result.{err_from_is_err_and}
use Rattle.checks.specs.CheckSteps.{rations_begin, rations_end, rations_hit, rations_miss}
use Rattle.checks.proofs.VerdictLaws.{ok_verdict, err_verdict, verdict_ok, verdict_is}
use Rattle.checks.proofs.values.rations_refusal.Goals as goal

pub loop-i-init : goal.loop-i-init
loop-i-init c = let d = c.default-before.ensures in rw (d.0, d.1.1.0) (rations_begin c.args.slots c.args.n c.args.numbers.now (omega arith))

pub returns-in_err-refusal : goal.returns-in_err-refusal
returns-in_err-refusal c =
    let p = err_from_is_err_and c.from_residual.result c.from_residual.ensures.1 in
    let v = err_verdict _ _ (sym c.in_err-refusal.was ∙ c.refusal.ensures) in
    rw (p.1, p.2) (verdict_is (rations_hit c.args.slots c.args.n c.args.numbers.now (omega arith) c.loop-i.i (omega arith) (c.loop-i.i + 2)
    c.loop-i.before.tank c.loop-i.before.deadline _ v.0 v.1 ∙ sym c.loop-i.invariant) v.1)

pub loop-i-preserved : goal.loop-i-preserved
loop-i-preserved c =
    c.loop-i.invariant ∙ rations_miss c.args.slots c.args.n c.args.numbers.now (omega arith) c.loop-i.i (omega arith) (c.loop-i.i + 2)
    c.loop-i.before.tank c.loop-i.before.deadline _ refl (c.loop-i.i + 1 + 2) (omega arith)
    (ok_verdict _ (sym c.in_ok-refusal.was ∙ c.refusal.ensures))

pub returns : goal.returns
returns c =
    verdict_ok _ (ap (λ r. r.number) (c.loop-i.invariant ∙ sym (rations_end c.args.slots c.args.n c.args.numbers.now (omega arith)
    (c.loop-i.i + 2) c.loop-i.before.tank c.loop-i.before.deadline c.loop-i.i (omega arith))))
