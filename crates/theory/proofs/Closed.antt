-- A closed set is loaded with exactly its forced volume, so a closed set of full slots around the overfull ones has the greatest deficiency.
-- That is why a failed search proves that no placing keeps the bounds. Assumes nothing.
use Rattle.std.specs.Prelude.{ℕ, ◌+◌, ◌-◌, ◌≤◌, ◌<◌, ◌≡◌, refl, Bool, true, false}
use Rattle.std.proofs.Common.{◌∙◌}
use Rattle.std.proofs.lemmas.Bool.{false≢true}
use native.Mathlib.Omega.{arith}
use Rattle.theory.specs.Sums.{sum, sum_add, sum_le, sum_cong, sum_split, sum_tight}
use Rattle.theory.specs.SumsOver.{pick, sum_on, on_lt}
use Rattle.theory.specs.Placing.{inside, outside, count, Placing, Closed, forced}
use Rattle.theory.proofs.Row.{row_lower, row_tight, row_full}
use Rattle.theory.proofs.Volumes.{load_by_job, forced_le_load}

-- a load x and a capacity h, in a set or not
pick_over : {r : Bool} {x h : ℕ} → (r ≡ true → h ≤ x) → (h < x → r ≡ true) → pick r x ≡ pick r h + (x - h)
pick_over {r = true} a b = omega (arith, a refl)
pick_over {r = false} {x} {h} a b = let k : ¬ (h < x) = λ l. false≢true (b l) in omega arith

pick_under : (q : Bool) (x h : ℕ) → pick q x ≤ pick q h + (x - h)
pick_under true x h = omega arith
pick_under false x h = omega arith

pick_full : (q : Bool) (x h : ℕ) → h < x → pick q x ≡ pick q h + (x - h) → q ≡ true
pick_full true x h k e = refl
pick_full false x h k e = absurd (omega arith)

module _ {n d : ℕ} {free : ℕ → ℕ → Bool} {v : ℕ → ℕ} {S : ℕ → ℕ → Bool} (s : Placing n d free v S) where
  pub closed_tight : {R : ℕ → Bool} → Closed n d free S R → sum_on d R (count n S) ≡ forced n d free v R
  unfolding forced
  closed_tight {R} c = load_by_job n d S R ∙ sum_cong (λ j l. row_tight (s.within j l) _ (s.volume j l) (c j l))

  -- a set that is loaded with no more than what is forced is closed
  pub tight_closed : (Q : ℕ → Bool) → sum_on d Q (count n S) ≤ forced n d free v Q → Closed n d free S Q
  unfolding forced
  tight_closed Q h j l =
      row_full (s.within j l) _ (s.volume j l)
      (omega (
        arith,
        sum_tight n (λ j. v j - outside d (free j) Q) (λ j. inside d (S j) Q)
            (λ j l. row_lower (s.within j l) _ (s.volume j l)) (omega (arith, load_by_job n d S Q)) j l,
      ))

  module _ {high : ℕ → ℕ} {R : ℕ → Bool} (c : Closed n d free S R) (loaded : (t : ℕ) → t < d → R t ≡ true → high t ≤ count n S t) where
    -- a closed set of full slots, one of them overfull, is forced over its capacity
    pub certificate : (t : ℕ) → t < d → R t ≡ true → high t < count n S t → sum_on d R high < forced n d free v R
    certificate t l r k = rw (← closed_tight c) (on_lt loaded t l r k)

    module _ (over : (t : ℕ) → t < d → high t < count n S t → R t ≡ true) where
      -- the load of R is its capacity and all the overflow
      load_R : sum_on d R (count n S) ≡ sum_on d R high + sum d (λ t. count n S t - high t)
      unfolding sum_on
      load_R = sum_split d _ _ _ (λ t l. pick_over (loaded t l) (over t l))

      -- the load of any set is at most its capacity and all the overflow
      load_le : (Q : ℕ → Bool) → sum_on d Q (count n S) ≤ sum_on d Q high + sum d (λ t. count n S t - high t)
      unfolding sum_on
      load_le Q = rw (← sum_add d (λ t. pick (Q t) (high t)) (λ t. count n S t - high t)) (sum_le (λ t l. pick_under (Q t) (count n S t) (high t)))

      -- no set has a greater deficiency than R
      pub closed_greatest : (Q : ℕ → Bool) → forced n d free v Q + sum_on d R high ≤ forced n d free v R + sum_on d Q high
      closed_greatest Q = omega (arith, forced_le_load s Q, load_le Q, load_R, closed_tight c)

      -- and a set whose deficiency is as great has R in it, where R is the least closed set around the overfull slots
      pub closed_least : ((Q : ℕ → Bool) → Closed n d free S Q → ((t : ℕ) → t < d → high t < count n S t → Q t ≡ true)
          → (t : ℕ) → t < d → R t ≡ true → Q t ≡ true)
          → (Q : ℕ → Bool) → forced n d free v Q + sum_on d R high ≡ forced n d free v R + sum_on d Q high
          → (t : ℕ) → t < d → R t ≡ true → Q t ≡ true
      unfolding sum_on
      closed_least small Q e =
          small Q (tight_closed Q (omega (arith, load_le Q, load_R, closed_tight c)))
          (λ t l k. pick_full (Q t) (count n S t) (high t) k
          (sum_tight d (λ t. pick (Q t) (count n S t)) (λ t. pick (Q t) (high t) + (count n S t - high t))
          (λ t l. pick_under (Q t) (count n S t) (high t))
          (omega (arith, forced_le_load s Q, load_R, closed_tight c, sum_add d (λ t. pick (Q t) (high t)) (λ t. count n S t - high t))) t l))
