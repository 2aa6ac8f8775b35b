-- `checks::values::value_refusal` meets its contract. Assumes nothing.
use mathlib.Core.Path.{refl, sym, ap, ◌∙◌}
use Rattle.std.proofs.Common.{arith}
use Rattle.std.proofs.lemmas.Result.{err_from_is_err_and}
use Rattle.checks.specs.Verdicts.{verdict}
use Rattle.checks.specs.ValueSteps.{value_head, value_range, value_agrees, value_jobs}
use Rattle.checks.proofs.VerdictLaws.{ok_verdict, err_verdict, verdict_is}
use Rattle.checks.proofs.values.value_refusal.Goals as goal

pub returns-in_err-head_refusal : goal.returns-in_err-head_refusal
returns-in_err-head_refusal c = let a = c.args in
    let p = err_from_is_err_and c.from_residual.result c.from_residual.ensures.1 in
    let v = err_verdict _ _ (sym c.in_err-head_refusal.was ∙ c.head_refusal.ensures) in
    rw (p.1, p.2) (verdict_is (value_head a.slots a.blowers a.wake a.rations a.numbers.now _ v.0 v.1) v.1)

pub rations_refusal-requires : goal.rations_refusal-requires
rations_refusal-requires c = let a = c.args in
    let z = ok_verdict _ (sym c.in_ok-head_refusal.was ∙ c.head_refusal.ensures) in
    let g = value_range a.slots a.blowers a.wake a.rations a.numbers.now _ refl z in
    (g.rations, omega (arith, value_agrees a.slots a.blowers a.wake a.rations a.numbers.now _ refl z))

pub returns : goal.returns
returns c = let a = c.args in
    let z = ok_verdict _ (sym c.in_ok-head_refusal.was ∙ c.head_refusal.ensures) in
    c.rations_refusal.ensures ∙ ap verdict (value_jobs a.slots a.blowers a.wake a.rations a.numbers.now _ refl z _ refl)
