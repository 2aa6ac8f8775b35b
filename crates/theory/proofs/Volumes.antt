-- Every placing loads a set Q with at least its forced and at most its possible volume. Assumes nothing.
use Rattle.std.specs.Prelude.{ℕ, ◌+◌, ◌-◌, ◌*◌, ◌≤◌, ◌<◌, ◌≡◌, refl, Bool, false}
use native.Mathlib.Omega.{arith}
use Rattle.theory.specs.Sums.{sum, sum_add, sum_le, sum_cong, sum_term, sum_le_mul}
use Rattle.theory.specs.SumsOver.{one, sum_on, compl, meet, join, on_swap, on_le, on_cong, on_none}
use Rattle.theory.specs.Placing.{size, inside, outside, count, Placing, forced, possible}
use Rattle.theory.proofs.Row.{row_lower, row_upper, row_supermodular, size_split}

-- A placing's load on a set ---------------------------------------------------

-- the load of Q, job by job
pub load_by_job : (n d : ℕ) (S : ℕ → ℕ → Bool) (Q : ℕ → Bool) → sum_on d Q (count n S) ≡ sum n (λ j. inside d (S j) Q)
unfolding count inside
load_by_job n d S Q = on_swap d n Q (λ j t. one (S j t))

module _ {n d : ℕ} {free : ℕ → ℕ → Bool} {v : ℕ → ℕ} {S : ℕ → ℕ → Bool} (s : Placing n d free v S) (Q : ℕ → Bool) where
  pub forced_le_load : forced n d free v Q ≤ sum_on d Q (count n S)
  unfolding forced
  forced_le_load = rw (load_by_job n d S Q) (sum_le (λ j l. row_lower (s.within j l) _ (s.volume j l)))

  pub load_le_possible : sum_on d Q (count n S) ≤ possible n d free v Q
  unfolding possible
  load_le_possible = rw (load_by_job n d S Q) (sum_le (λ j l. row_upper (s.within j l) _ (s.volume j l)))

  -- and so no placing keeps the highs where a set is forced over its capacity, nor the lows where a set needs more than is possible
  pub forced_le_capacity : {high : ℕ → ℕ} → ((t : ℕ) → t < d → count n S t ≤ high t) → forced n d free v Q ≤ sum_on d Q high
  forced_le_capacity b = omega (arith, forced_le_load, on_le {Q = Q} {x = count n S} (λ t l q. b t l))

  pub low_le_possible : {low : ℕ → ℕ} → ((t : ℕ) → t < d → low t ≤ count n S t) → sum_on d Q low ≤ possible n d free v Q
  low_le_possible b = omega (arith, load_le_possible, on_le {Q = Q} {y = count n S} (λ t l q. b t l))

pub no_placing_lem : {n d : ℕ} {free : ℕ → ℕ → Bool} {v high : ℕ → ℕ} {P : ℕ → ℕ → Bool} (R : ℕ → Bool) → sum_on d R high < forced n d free v R
    → Placing n d free v P → ((t : ℕ) → t < d → count n P t ≤ high t) → ⊥
no_placing_lem R k p b = omega (arith, forced_le_capacity p R b)

-- Laws of the two volumes -----------------------------------------------------

module _ (n d : ℕ) (free : ℕ → ℕ → Bool) (v : ℕ → ℕ) where
  -- they depend on the slots below d only
  pub forced_cong : {A B : ℕ → Bool} → ((t : ℕ) → t < d → A t ≡ B t) → forced n d free v A ≡ forced n d free v B
  unfolding forced outside
  forced_cong {A} {B} h =
      sum_cong (λ j l. rw (on_cong {A = compl A} {B = compl B} {x = λ t. one (free j t)} {y = λ t. one (free j t)} (λ t k. rw (h t k)) (λ t k. refl)))

  pub possible_cong : {A B : ℕ → Bool} → ((t : ℕ) → t < d → A t ≡ B t) → possible n d free v A ≡ possible n d free v B
  unfolding possible inside
  possible_cong {A} {B} h =
      sum_cong (λ j l. rw (on_cong {A = A} {B = B} {x = λ t. one (free j t)} {y = λ t. one (free j t)} h (λ t k. refl)))

  pub forced_supermodular : (A B : ℕ → Bool)
      → forced n d free v A + forced n d free v B ≤ forced n d free v (join A B) + forced n d free v (meet A B)
  unfolding forced
  forced_supermodular A B =
      omega (
        arith,
        sum_le {n = n} (λ j l. row_supermodular d (v j) (free j) A B),
        sum_add n (λ j. v j - outside d (free j) A) (λ j. v j - outside d (free j) B),
        sum_add n (λ j. v j - outside d (free j) (join A B)) (λ j. v j - outside d (free j) (meet A B)),
      )

  -- volumes of at most c
  pub forced_le_mul : (c : ℕ) → ((j : ℕ) → j < n → v j ≤ c) → (Q : ℕ → Bool) → forced n d free v Q ≤ n * c
  unfolding forced
  forced_le_mul c h Q = sum_le_mul n c (λ j. v j - outside d (free j) Q) (λ j l. omega (arith, h j l))

  -- into no slot at all the volumes are forced that their windows are too small for
  pub forced_none : forced n d free v (λ t. false) ≡ sum n (λ j. v j - size d (free j))
  unfolding forced inside
  forced_none = sum_cong (λ j l. omega (arith, size_split d (free j) (λ t. false), on_none d (λ t. one (free j t))))

  pub fits_of_forced_none : forced n d free v (λ t. false) ≤ 0 → (j : ℕ) → j < n → v j ≤ size d (free j)
  fits_of_forced_none h j l = omega (arith, forced_none, sum_term n (λ j. v j - size d (free j)) j l)

  pub forced_none_of_fits : ((j : ℕ) → j < n → v j ≤ size d (free j)) → forced n d free v (λ t. false) ≡ 0
  forced_none_of_fits h = omega (arith, forced_none, sum_le_mul n 0 (λ j. v j - size d (free j)) (λ j l. omega (arith, h j l)))

  -- into one slot no more can go than windows have it
  pub possible_le_width : (Q : ℕ → Bool) → possible n d free v Q ≤ sum_on d Q (count n free)
  unfolding possible
  possible_le_width Q = rw (load_by_job n d free Q) (sum_le (λ j l. omega arith))
