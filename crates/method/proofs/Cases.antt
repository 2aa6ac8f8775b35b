-- Proofs by cases: two numbers compared, and an entry of a list in which one is set. Assumes nothing.
use Rattle.std.specs.Prelude.{◌≡◌, refl, ◌⊎◌, ◌≢◌, Bool, true, false, List, ℕ, ◌≤◌, ◌<◌, leb, length, get_or, set}
use Rattle.std.proofs.Common.{sym, ◌∙◌, ap, subst, inl, inr, arith, get_or-set_same, get_or-set_other, leb-true, leb-false}

pub le_or_lt : (a b : ℕ) → (a ≤ b) ⊎ (b < a)
le_or_lt a b = go (leb a b) refl
  where
    go : (x : Bool) → leb a b ≡ x → (a ≤ b) ⊎ (b < a)
    go true e = inl (leb-true a b e)
    go false e = inr (leb-false a b e)

pub lt_or_eq_or_gt : (a b : ℕ) → (a < b) ⊎ (a ≡ b) ⊎ (b < a)
lt_or_eq_or_gt a b = go (le_or_lt a b) (le_or_lt b a)
  where
    go : (a ≤ b) ⊎ (b < a) → (b ≤ a) ⊎ (a < b) → (a < b) ⊎ (a ≡ b) ⊎ (b < a)
    go (inr q) p = inr (inr q)
    go (inl q) (inr p) = inl p
    go (inl q) (inl p) = inr (inl (omega arith))

-- what holds of the number set, and of every entry elsewhere, holds of each entry
pub set_cases : (G : ℕ → Type 0) (xs : List ℕ) (t y u : ℕ) → t < length xs → (u ≡ t → G y) → (u ≢ t → G (get_or xs u 0)) → G (get_or (set xs t y) u 0)
set_cases G xs t y u l f g = go (lt_or_eq_or_gt u t)
  where
    other : u ≢ t → G (get_or (set xs t y) u 0)
    other a = subst G (sym (get_or-set_other xs t u y 0 a)) (g a)

    go : (u < t) ⊎ (u ≡ t) ⊎ (t < u) → G (get_or (set xs t y) u 0)
    go (inl a) = other (omega arith)
    go (inr (inl a)) = subst G (sym (ap (λ i. get_or (set xs t y) i 0) a ∙ get_or-set_same xs t y 0 l)) (f a)
    go (inr (inr a)) = other (omega arith)
