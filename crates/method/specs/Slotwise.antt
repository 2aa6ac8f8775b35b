-- Parallel Left-to-Right slot by slot, the form that code follows. Method.antt looks for the longest run of slots; here a blower goes on as it is,
-- idle or busy, in the next slot if it can, and else changes over. Theorems.antt states that both settle the same bounds. Definitions only.
-- Assumes nothing.
use Rattle.std.specs.Prelude.{Bool, true, false, not, cond, List, [], ◌∷◌, ℕ, zero, suc, ◌-◌, min, max, get_or, set}
use Rattle.schedules.specs.Schedules.{Demand}
use Rattle.method.specs.Method.{Bounds, feasible_under}

-- blower k idle (false) or busy (true) in slot t + 1
abbrev pub keep_at : (k : ℕ) (busy : Bool) (t : ℕ) → Bounds → Bounds
keep_at k false t b = record { low = b.low; high = set b.high t (min (k - 1) (get_or b.high t 0)) }
keep_at k true t b = record { low = set b.low t (max k (get_or b.low t 0)); high = b.high }

module _ (slots : ℕ) (ds : List Demand) where
  -- what blower k does in slot t + 1: the same as before it if that is possible, else the other
  unfoldable pub busy_at : (k : ℕ) (busy : Bool) (t : ℕ) → Bounds → Bool
  busy_at k busy t b = cond (feasible_under slots ds (keep_at k busy t b)) busy (not busy)

  -- blower k in the n slots after slot t, up to which it is idle or busy
  unfoldable pub settle_from : (k : ℕ) (busy : Bool) (n t : ℕ) → Bounds → Bounds
  settle_from k busy zero t b = b
  settle_from k busy (suc n) t b = let x : Bool = busy_at k busy t b in settle_from k x n (suc t) (keep_at k x t b)

  -- blowers k, k − 1, .., 1: each begins the day idle
  unfoldable pub settle_each : ℕ → Bounds → Bounds
  settle_each zero b = b
  settle_each (suc k) b = settle_each k (settle_from (suc k) false slots 0 b)

  -- what blower k does in each of these slots: true where it is busy
  unfoldable pub busy_from : (k : ℕ) (busy : Bool) (n t : ℕ) → Bounds → List Bool
  busy_from k busy zero t b = []
  busy_from k busy (suc n) t b = let x : Bool = busy_at k busy t b in x ∷ busy_from k x n (suc t) (keep_at k x t b)
