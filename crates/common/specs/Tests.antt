-- Tests with Bool: what their connectives say, and a test of all numbers below a bound. Assumes nothing.
use Rattle.std.specs.Prelude.{ℕ, zero, suc, ◌<◌, ◌≡◌, refl, ◌⊎◌, Bool, true, false, ◌&&◌, ◌||◌}
use Rattle.std.proofs.Common.{sym, ◌∙◌, inl, inr, true≢false, eq-or-lt_of_le, arith}
use Rattle.std.proofs.lemmas.Bool.{false≢true}

-- Connectives -----------------------------------------------------------------

pub true_or_false : (b : Bool) → (b ≡ true) ⊎ (b ≡ false)
true_or_false true = inl refl
true_or_false false = inr refl

pub and_true : (a b : Bool) → (a && b) ≡ true → (a ≡ true) × (b ≡ true)
and_true true b e = (refl, e)
and_true false b e = absurd (false≢true e)

pub or_true : (a b : Bool) → (a || b) ≡ true → (a ≡ true) ⊎ (b ≡ true)
or_true true b e = inl refl
or_true false b e = inr e

pub or_false : (a b : Bool) → (a || b) ≡ false → (a ≡ false) × (b ≡ false)
or_false true b e = absurd (true≢false e)
or_false false b e = (refl, e)

pub or_left : {a : Bool} (b : Bool) → a ≡ true → (a || b) ≡ true
or_left b e = rw e

pub or_right : (a : Bool) {b : Bool} → b ≡ true → (a || b) ≡ true
or_right true e = refl
or_right false e = e

pub false_of_not_true : (b : Bool) → (b ≡ true → ⊥) → b ≡ false
false_of_not_true true h = absurd (h refl)
false_of_not_true false h = refl

-- two tests that imply each other are the same
pub bool_ext : (a b : Bool) → (a ≡ true → b ≡ true) → (b ≡ true → a ≡ true) → a ≡ b
bool_ext true b f g = sym (f refl)
bool_ext false true f g = g refl
bool_ext false false f g = refl

-- Some number below a bound ---------------------------------------------------

-- some number below d passes the test
unfoldable pub some : ℕ → (ℕ → Bool) → Bool
some zero f = false
some (suc d) f = some d f || f d

pub some_in : (d : ℕ) (f : ℕ → Bool) → some d f ≡ true → (t : ℕ) × (t < d) × (f t ≡ true)
unfolding some
some_in zero f e = absurd (false≢true e)
some_in (suc d) f e = go (or_true (some d f) (f d) e) (some_in d f)
  where
    go : (some d f ≡ true) ⊎ (f d ≡ true) → (some d f ≡ true → (t : ℕ) × (t < d) × (f t ≡ true)) → (t : ℕ) × (t < suc d) × (f t ≡ true)
    go (inl e) ih = let w = ih e in (w.0, omega arith, w.2)
    go (inr e) ih = (d, omega arith, e)

pub in_some : (d : ℕ) (f : ℕ → Bool) (t : ℕ) → t < d → f t ≡ true → some d f ≡ true
unfolding some
in_some zero f t l e = absurd (omega arith)
in_some (suc d) f t l e = go (eq-or-lt_of_le (omega arith)) (λ k. in_some d f t k e)
  where
    go : (t ≡ d) ⊎ (t < d) → (t < d → some d f ≡ true) → (some d f || f d) ≡ true
    go (inl q) ih = or_right (some d f) (rw q at e)
    go (inr q) ih = or_left (f d) (ih q)

pub none_in : (d : ℕ) (f : ℕ → Bool) → some d f ≡ false → (t : ℕ) → t < d → f t ≡ true → ⊥
none_in d f e t l h = false≢true (sym e ∙ in_some d f t l h)
