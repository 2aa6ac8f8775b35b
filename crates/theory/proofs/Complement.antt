-- The exchange: the slots that a placing leaves free are a placing too, and its deficiency is the excess of the lows over what is possible.
-- So what is shown of highs holds of lows. Assumes nothing.
use Rattle.std.specs.Prelude.{ℕ, ◌+◌, ◌-◌, ◌≤◌, ◌<◌, ◌≡◌, refl, ◌↔◌, Bool, true, false, not, ◌&&◌}
use Rattle.std.proofs.Math.Path.{sym}
use Rattle.std.proofs.Common.{◌∙◌}
use Rattle.std.proofs.lemmas.Bool.{false≢true}
use native.Mathlib.Omega.{arith}
use Rattle.common.specs.Tests.{and_true}
use Rattle.theory.specs.Sums.{sum, sum_split}
use Rattle.theory.specs.SumsOver.{one, pick, sum_on, on_swap, on_lt}
use Rattle.theory.specs.Placing.{size, inside, count, Placing, Closed, forced, possible, opposite, rest}
use Rattle.theory.proofs.Row.{size_split}
use Rattle.theory.proofs.Volumes.{load_by_job}
use Rattle.theory.proofs.Closed.{closed_tight}

-- one place: in the row or in its opposite
one_opposite : {f s : Bool} → (s ≡ true → f ≡ true) → one f ≡ one s + one (f && not s)
one_opposite {f = true} {s = true} h = refl
one_opposite {f = true} {s = false} h = refl
one_opposite {f = false} {s = true} h = absurd (false≢true (h refl))
one_opposite {f = false} {s = false} h = refl

pick_sub : (q : Bool) (x y : ℕ) → y ≤ x → pick q x ≡ pick q (x - y) + pick q y
pick_sub true x y k = omega arith
pick_sub false x y k = omega arith

pick_add : (q : Bool) (x y z : ℕ) → x ≡ y + z → pick q x ≡ pick q y + pick q z
pick_add true x y z e = e
pick_add false x y z e = refl

-- Volumes of the exchange -----------------------------------------------------

module _ (n d : ℕ) (free : ℕ → ℕ → Bool) (v : ℕ → ℕ) (Q : ℕ → Bool) where
  -- what the opposite is forced to, and what is possible
  pub forced_rest : forced n d free (rest d free v) Q + possible n d free v Q ≡ sum n (λ j. inside d (free j) Q)
  unfolding forced possible
  forced_rest = sym (sum_split n _ _ _ (λ j l. omega (arith, size_split d (free j) Q)))

  -- forced' − capacity' = low − possible, where the high of the opposite is the width less the low
  pub shortfall_rest : (low : ℕ → ℕ) → ((t : ℕ) → t < d → low t ≤ count n free t)
      → forced n d free (rest d free v) Q + possible n d free v Q ≡ sum_on d Q (λ t. count n free t - low t) + sum_on d Q low
  unfolding sum_on inside count
  shortfall_rest low h =
      forced_rest ∙ sym (on_swap d n Q (λ j t. one (free j t))) ∙ sum_split d _ _ _ (λ t l. pick_sub (Q t) (count n free t) (low t) (h t l))

-- The opposite of a placing ---------------------------------------------------

module _ {n d : ℕ} {free : ℕ → ℕ → Bool} {v : ℕ → ℕ} {S : ℕ → ℕ → Bool} (s : Placing n d free v S) where
  pub placing_rest : Placing n d free (rest d free v) (opposite free S)
  unfolding size
  placing_rest = record {
    within = λ j l t k e. (and_true (free j t) (not (S j t)) e).0;
    volume = λ j l.
        let e : size d (free j) ≡ size d (S j) + size d (opposite free S j) = sum_split d _ _ _ (λ t k. one_opposite (s.within j l t k)) in
        omega (arith, s.volume j l);
  }

  pub count_rest : (t : ℕ) → t < d → count n free t ≡ count n S t + count n (opposite free S) t
  unfolding count
  count_rest t k = sum_split n _ _ _ (λ j l. one_opposite (s.within j l t k))

  -- a slot keeps its low exactly where its opposite keeps the high
  pub bound_rest : (low : ℕ → ℕ) (t : ℕ) → t < d → low t ≤ count n free t
      → (low t ≤ count n S t) ↔ (count n (opposite free S) t ≤ count n free t - low t)
  bound_rest low t k h = let e = count_rest t k in omega arith

  -- a set that is closed in the opposite is loaded with all that is possible
  pub closed_possible : {R : ℕ → Bool} → Closed n d free (opposite free S) R → sum_on d R (count n S) ≡ possible n d free v R
  unfolding sum_on
  closed_possible {R} c =
      omega (
        arith,
        closed_tight placing_rest c,
        forced_rest n d free v R,
        load_by_job n d free R,
        sum_split d (λ t. pick (R t) (count n free t)) (λ t. pick (R t) (count n S t)) (λ t. pick (R t) (count n (opposite free S) t))
            (λ t l. pick_add (R t) _ _ _ (count_rest t l)),
      )

  -- and where its slots are at their lows, one of them below, it needs more than is possible
  pub certificate_rest : {low : ℕ → ℕ} {R : ℕ → Bool} → Closed n d free (opposite free S) R
      → ((t : ℕ) → t < d → R t ≡ true → count n S t ≤ low t)
      → (t : ℕ) → t < d → R t ≡ true → count n S t < low t → possible n d free v R < sum_on d R low
  certificate_rest c h t l r k = rw (← closed_possible c) (on_lt h t l r k)
