-- That a stretch stops only where it must, slot by slot: the same demand as `StretchesStop`, without stretches, and
-- from a slot on (request 112). `May` is what is asked of a placing. Definitions only. Assumes nothing.
use Rattle.std.specs.Prelude.{◌≡◌, ◌⊎◌, Bool, false, not, ℕ, zero, suc, ◌≤◌, ◌<◌}
use mathlib.Core.List.{List, Memᴰ}
use Rattle.schedules.specs.Schedules.{Schedule, load}
use Rattle.method.specs.Intervals.{Interval, busy_in}
use Rattle.method.specs.Keeping.{Meets, Carries, stretches, KeepsBefore}

-- what blower k does in slot e, the slot before slot e + 1: idle before slot 1
abbrev pub so_far : (counts : List ℕ) (k e : ℕ) → Bool
so_far counts k zero = false
so_far counts k (suc e) = busy_in counts k e

-- loads that do what the counts say wherever it was settled before blower k came to slot e + 1
abbrev pub Follows : (slots blowers : ℕ) (counts loads : List ℕ) (k e : ℕ) → Type 0
Follows slots m counts loads k e = (j t : ℕ) → t < slots → ((k < j) × (j ≤ m)) ⊎ ((j ≡ k) × (t < e)) → Meets loads j (busy_in counts j t) t

-- where a blower changes over after slot e, from slot c on, no such placing goes on as before
abbrev pub StopsAt : (slots blowers c : ℕ) (May : Schedule → Type 0) (counts : List ℕ) → Type 0
StopsAt slots m c May counts =
    (k e : ℕ) → 1 ≤ k → k ≤ m → c ≤ e → e < slots → busy_in counts k e ≡ not (so_far counts k e)
    → (p : Schedule) → Follows slots m counts (load slots p) k e → Meets (load slots p) k (so_far counts k e) e → ¬ May p

-- the same of the stretches whose last slot is c or later
abbrev pub StretchesStopFrom : (slots blowers c : ℕ) (May : Schedule → Type 0) (counts : List ℕ) → Type 0
StretchesStopFrom slots m c May counts =
    (k : ℕ) (v : Interval) → 1 ≤ k → k ≤ m → Memᴰ v (stretches counts k) → c ≤ v.last → v.last < slots
    → (p : Schedule) → KeepsBefore m counts (load slots p) k v → Carries (load slots p) k v → ¬ May p
