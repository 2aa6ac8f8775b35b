-- The stretches as the method settles them, run by run. Theorems.antt states that the stretches read off the counts are these. Definitions only.
-- Assumes nothing.
use Rattle.std.specs.Prelude.{Bool, true, false, List, [], ◌∷◌, ◌++◌, ℕ, zero, suc, ◌+◌, leb}
use Rattle.schedules.specs.Schedules.{Demand}
use Rattle.method.specs.Method.{Bounds, idle_for, busy_for, idle_run, busy_run, settle}
use Rattle.method.specs.Intervals.{Interval}

-- a run of n slots from slot t on, as a stretch; an empty run is none
abbrev pub stretch_of : (t n : ℕ) (busy : Bool) → List Interval
stretch_of t zero busy = []
stretch_of t (suc n) busy = record { first = t; last = t + n; busy = busy } ∷ []

module _ (slots : ℕ) (ds : List Demand) where
  -- the runs of blower k from slot t on, as `settle` takes them
  unfoldable pub settled_runs : (k turns t : ℕ) → Bounds → List Interval
  settled_runs k zero t b = []
  settled_runs k (suc turns) t b =
      let i : ℕ = idle_run slots ds k t b in
      let c : Bounds = idle_for k t b i in
      let n : ℕ = busy_run slots ds k (t + i) c in
      stretch_of t i false ++ (stretch_of (t + i) n true ++ settled_runs k turns (t + i + n) (busy_for k (t + i) c n))

  -- the bounds when the turn comes to blower k: blowers m, m − 1, .., k + 1 are settled
  unfoldable pub bounds_at_turn : (m k : ℕ) → Bounds → Bounds
  bounds_at_turn zero k b = b
  bounds_at_turn (suc m) k b = elim (leb k m) [ true ↦ bounds_at_turn m k (settle slots ds (suc m) slots 1 b) | false ↦ b ]
