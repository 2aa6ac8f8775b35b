-- Parallel Left-to-Right (document 000, algorithms 1 and 2), as document 01 fixes it. Definitions only. Assumes
-- nothing.
use Rattle.std.specs.Prelude.{◌≡◌, Bool, true, false, ◌&&◌, cond, List, ℕ, zero, suc, ◌+◌, ◌-◌, min, max, leb, ltb, length, replicate}
use Rattle.common.specs.Lists.{range, zip_with}
use Rattle.schedules.specs.Schedules.{Demand, feasible}

-- Bounds ----------------------------------------------------------------------

-- A low and a high for each slot of the day.
pub record Bounds : Type 0 where
  pub low : List ℕ
  pub high : List ℕ

-- a day begins with low 0
abbrev pub bounds_under : (slots : ℕ) (high : List ℕ) → Bounds
bounds_under slots high = record { low = replicate slots 0; high = high }

-- and without further word, high is the number of blowers
abbrev pub day_bounds : (slots blowers : ℕ) → Bounds
day_bounds slots blowers = bounds_under slots (replicate slots blowers)

-- f at the n slots from slot t on, the other slots as they are
unfoldable pub on_run : ℕ → ℕ → (ℕ → ℕ) → List ℕ → List ℕ
on_run t n f xs = zip_with (λ i x. cond (leb t i && ltb i (t + n)) (f x) x) (range 1 (length xs)) xs

-- blower k idle for n slots from slot t on: high there set to the smaller of itself and k − 1 (request 108). Where every
-- high begins at m that is k − 1, document 01's step: blowers are treated from m down, so that high there is k or more.
unfoldable pub idle_for : ℕ → ℕ → Bounds → ℕ → Bounds
idle_for k t b n = record { low = b.low; high = on_run t n (min (k - 1)) b.high }

-- blower k busy for n slots from slot t on: low there set to the larger of low and k
unfoldable pub busy_for : ℕ → ℕ → Bounds → ℕ → Bounds
busy_for k t b n = record { low = on_run t n (max k) b.low; high = b.high }

-- blower k idle (false) or busy (true) for n slots from slot t on
abbrev pub keep_for : (k : ℕ) (busy : Bool) (t : ℕ) → Bounds → ℕ → Bounds
keep_for k false t b n = idle_for k t b n
keep_for k true t b n = busy_for k t b n

-- the longest run: the greatest number up to n that passes the test, 0 where none above it does
unfoldable pub longest : (ℕ → Bool) → ℕ → ℕ
longest test zero = zero
longest test (suc n) = elim (test (suc n)) [ true ↦ suc n | false ↦ longest test n ]

-- The method ------------------------------------------------------------------

module _ (slots : ℕ) (ds : List Demand) where
  -- a sound placing exists under the bounds
  abbrev pub feasible_under : Bounds → Bool
  feasible_under b = feasible slots ds b.low b.high

  -- the longest run from slot t on, possibly none, for which blower k can be idle, and the longest for which it can be
  -- busy
  unfoldable pub idle_run : (k t : ℕ) → Bounds → ℕ
  idle_run k t b = longest (λ n. feasible_under (idle_for k t b n)) (suc slots - t)

  unfoldable pub busy_run : (k t : ℕ) → Bounds → ℕ
  busy_run k t b = longest (λ n. feasible_under (busy_for k t b n)) (suc slots - t)

  -- blower k from slot t on: idle for the longest run, then busy for the longest run, and so on to the last slot. Past
  -- it nothing changes, and each turn passes a slot, so that `slots` turns are enough.
  unfoldable pub settle : (k turns t : ℕ) → Bounds → Bounds
  settle k zero t b = b
  settle k (suc turns) t b =
      let i : ℕ = idle_run k t b in
      let c : Bounds = idle_for k t b i in
      let n : ℕ = busy_run k (t + i) c in
      settle k turns (t + i + n) (busy_for k (t + i) c n)

  -- blowers k, k − 1, .., 1
  unfoldable pub settle_all : ℕ → Bounds → Bounds
  settle_all zero b = b
  settle_all (suc k) b = settle_all k (settle (suc k) slots 1 b)

  -- the count of each slot: at the end low equals high
  unfoldable pub loads : (blowers : ℕ) → Bounds → List ℕ
  loads blowers b = (settle_all blowers b).low

-- Days that can be planned ----------------------------------------------------

-- an entry for each of the day's slots
pub record Sized (slots : ℕ) (b : Bounds) : Type 0 where
  pub each_low : length b.low ≡ slots
  pub each_high : length b.high ≡ slots

-- an entry for each slot, and a sound placing exists
pub record FeasibleDay (slots : ℕ) (ds : List Demand) (b : Bounds) : Type 0 where
  pub sized : Sized slots b
  pub possible : feasible_under slots ds b ≡ true
