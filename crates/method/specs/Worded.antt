-- The method with its idle step as document 01 words it: high set to k − 1, whatever it was. Method.antt takes the
-- smaller of high and k − 1; Theorems.antt states that the two settle the same. Definitions only. Assumes nothing.
use Rattle.std.specs.Prelude.{true, false, List, [], ◌++◌, ℕ, zero, suc, ◌+◌, ◌-◌, leb}
use Rattle.schedules.specs.Schedules.{Demand}
use Rattle.method.specs.Method.{Bounds, on_run, busy_for, longest, feasible_under, busy_run}
use Rattle.method.specs.Intervals.{Interval}
use Rattle.method.specs.SettledRuns.{stretch_of}

-- blower k idle for n slots from slot t on: high there set to k − 1
unfoldable pub idle_set : ℕ → ℕ → Bounds → ℕ → Bounds
idle_set k t b n = record { low = b.low; high = on_run t n (λ x. k - 1) b.high }

module _ (slots : ℕ) (ds : List Demand) where
  -- the longest run from slot t on, possibly none, for which blower k can be idle
  unfoldable pub idle_set_run : (k t : ℕ) → Bounds → ℕ
  idle_set_run k t b = longest (λ n. feasible_under slots ds (idle_set k t b n)) (suc slots - t)

  -- blower k from slot t on: idle for the longest run, then busy for the longest run, and so on to the last slot. Each
  -- turn passes a slot, so that `slots` turns are enough.
  unfoldable pub settle_worded : (k turns t : ℕ) → Bounds → Bounds
  settle_worded k zero t b = b
  settle_worded k (suc turns) t b =
      let i : ℕ = idle_set_run k t b in
      let c : Bounds = idle_set k t b i in
      let n : ℕ = busy_run slots ds k (t + i) c in
      settle_worded k turns (t + i + n) (busy_for k (t + i) c n)

  -- blowers k, k − 1, .., 1
  unfoldable pub settle_all_worded : ℕ → Bounds → Bounds
  settle_all_worded zero b = b
  settle_all_worded (suc k) b = settle_all_worded k (settle_worded (suc k) slots 1 b)

  -- the runs of blower k from slot t on, as `settle_worded` takes them
  unfoldable pub runs_worded : (k turns t : ℕ) → Bounds → List Interval
  runs_worded k zero t b = []
  runs_worded k (suc turns) t b =
      let i : ℕ = idle_set_run k t b in
      let c : Bounds = idle_set k t b i in
      let n : ℕ = busy_run slots ds k (t + i) c in
      stretch_of t i false ++ (stretch_of (t + i) n true ++ runs_worded k turns (t + i + n) (busy_for k (t + i) c n))

  -- the bounds when the turn comes to blower k: blowers m, m − 1, .., k + 1 are settled
  unfoldable pub bounds_worded : (m k : ℕ) → Bounds → Bounds
  bounds_worded zero k b = b
  bounds_worded (suc m) k b = elim (leb k m) [ true ↦ bounds_worded m k (settle_worded (suc m) slots 1 b) | false ↦ b ]
