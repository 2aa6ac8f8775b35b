-- The lists of this layer as the functions of crate `theory`, and back: so a search that keeps its grid as a function S of demand and slot
-- gets its answer about `feasible` and `critical_set` from what it knows of S. Demands and slots are counted from 0. Assumes nothing.
use Rattle.std.specs.Prelude.{◌≡◌, get_or}
use Rattle.std.proofs.Math.Bool.{Bool}
use mathlib.Core.List.{List, []}
use Prim.Native.Nat.{ℕ, ◌<◌}
use Rattle.std.proofs.Math.ListN.{length}
use Rattle.theory.specs.Bounds.{Bounded}
use Rattle.schedules.specs.Slots.{has}
use Rattle.schedules.specs.Schedules.{Demand, Schedule, window_of, volume_of}
use Rattle.schedules.specs.Tabulate.{tab}

-- slot t is in the window of demand j (`volume_of` is its volume)
abbrev pub free : List Demand → ℕ → ℕ → Bool
free ds j t = has (window_of ds j) t

-- demand j is fed in slot t
abbrev pub fed : Schedule → ℕ → ℕ → Bool
fed p j t = has (get_or p j []) t

-- the bound of slot t
abbrev pub bound : List ℕ → ℕ → ℕ
bound xs t = get_or xs t 0

-- the placing S of n demands in d slots, as lists
abbrev pub listed : ℕ → ℕ → (ℕ → ℕ → Bool) → Schedule
listed n d S = tab n (λ j. tab d (S j))

-- each set of a placing says of each of the day's slots whether it is in it
abbrev pub Rows : ℕ → Schedule → Type 0
Rows slots p = (j : ℕ) → j < length p → length (get_or p j []) ≡ slots

-- S is a placing that keeps both bounds
abbrev pub BoundedBy : (slots : ℕ) → List Demand → (low high : List ℕ) → (ℕ → ℕ → Bool) → Type 0
BoundedBy slots ds low high = Bounded (length ds) slots (free ds) (volume_of ds) (bound low) (bound high)
