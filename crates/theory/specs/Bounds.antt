-- A placing between low and high in every slot, and the numbers that decide whether one exists. Definitions only. Assumes nothing.
use Rattle.std.specs.Prelude.{ℕ, ◌≤◌, ◌<◌, Bool}
use Rattle.theory.specs.SumsOver.{sum_on}
use Rattle.theory.specs.Placing.{count, Placing, forced, possible}

module _ (n d : ℕ) (free : ℕ → ℕ → Bool) (v low high : ℕ → ℕ) where
  -- a placing that keeps both bounds
  abbrev pub Bounded : (ℕ → ℕ → Bool) → Type 0
  Bounded T = Placing n d free v T × ((t : ℕ) → t < d → (low t ≤ count n T t) × (count n T t ≤ high t))

  -- the condition of document 01, in numbers
  pub record NoObstacle : Type 0 where
    pub ordered : (t : ℕ) → t < d → low t ≤ high t
    pub no_shortfall : (Q : ℕ → Bool) → forced n d free v Q ≤ sum_on d Q high
    pub no_excess : (Q : ℕ → Bool) → sum_on d Q low ≤ possible n d free v Q
