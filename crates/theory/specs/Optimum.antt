-- A placing with a least closed set of full slots around its overfull slots. Definitions only. Assumes nothing.
use Rattle.std.specs.Prelude.{ℕ, ◌≤◌, ◌<◌, min, max, ◌≡◌, Bool, true}
use Rattle.theory.specs.Placing.{count, Placing, Closed}

module _ (n d : ℕ) (free : ℕ → ℕ → Bool) (high : ℕ → ℕ) where
  -- the loads have gone towards the highs, and none past its high
  abbrev pub Between : (S T : ℕ → ℕ → Bool) → Type 0
  Between S T = (t : ℕ) → t < d → (min (count n S t) (high t) ≤ count n T t) × (count n T t ≤ max (count n S t) (high t))

module _ (n d : ℕ) (free : ℕ → ℕ → Bool) (high v : ℕ → ℕ) where
  -- a placing, and the least closed set around its overfull slots, all of them full; its loads come from those of S by going towards the highs
  pub record Optimum (S : ℕ → ℕ → Bool) : Type 0 where
    pub plan : ℕ → ℕ → Bool
    pub set : ℕ → Bool
    pub placing : Placing n d free v plan
    pub between : Between n d free high S plan
    pub closed : Closed n d free plan set
    pub loaded : (t : ℕ) → t < d → set t ≡ true → high t ≤ count n plan t
    pub over : (t : ℕ) → t < d → high t < count n plan t → set t ≡ true
    pub least : (Q : ℕ → Bool) → Closed n d free plan Q → ((t : ℕ) → t < d → high t < count n plan t → Q t ≡ true)
        → (t : ℕ) → t < d → set t ≡ true → Q t ≡ true
