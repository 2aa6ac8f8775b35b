-- What a verdict says of the refusal that it is of. Assumes nothing.
use Rattle.std.specs.Prelude.{◌≡◌, refl, Bool, true, false, cond, eqb, Ok, Err}
use Rattle.std.proofs.Common.{sym, ap, ◌∙◌, arith, eqb-true, ne_eqb}
use Rattle.std.proofs.lemmas.Bool.{eqb-false}
use Rattle.checks.specs.declared.Refusal.{Refusal}
use Rattle.checks.specs.Verdicts.{verdict}

-- none
pub verdict_ok : (f : Refusal) → f.number ≡ 0 → Ok tt ≡ verdict f
verdict_ok f z = rw z refl

pub verdict_err : (f : Refusal) → (f.number ≡ 0 → ⊥) → Err f ≡ verdict f
verdict_err f n = rw (ne_eqb f.number 0 n) refl

pub ok_verdict : (f : Refusal) → Ok tt ≡ verdict f → f.number ≡ 0
ok_verdict f e = go (eqb f.number 0) refl e
  where
    go : (t : Bool) → eqb f.number 0 ≡ t → Ok (tt {0}) ≡ cond t (Ok (tt {0})) (Err f) → f.number ≡ 0
    go true q h = eqb-true f.number 0 q
    go false q h = grind arith

pub err_verdict : (f r : Refusal) → Err r ≡ verdict f → (r ≡ f) × (r.number ≡ 0 → ⊥)
err_verdict f r e = go (eqb f.number 0) refl e
  where
    go : (t : Bool) → eqb f.number 0 ≡ t → Err r ≡ cond t (Ok (tt {0})) (Err f) → (r ≡ f) × (r.number ≡ 0 → ⊥)
    go true q h = grind arith
    go false q h = let same : r ≡ f = grind arith in (same, λ z. eqb-false f.number 0 q (sym (ap (λ x. x.number) same) ∙ z))

pub verdict_is : {f r : Refusal} → r ≡ f → (r.number ≡ 0 → ⊥) → Err r ≡ verdict f
verdict_is {f} {r} e n = ap Err e ∙ verdict_err f (λ z. n (ap (λ x. x.number) e ∙ z))
