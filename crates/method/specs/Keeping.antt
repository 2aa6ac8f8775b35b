-- Which stretches a placing keeps, and which it carries further: the words of demand 3. What they say of a placing they say of its loads, the
-- number of feedings in each slot. Definitions only. Assumes nothing.
use Rattle.std.specs.Prelude.{◌≡◌, ◌⊎◌, Bool, true, false, cond, ℕ, suc, ◌-◌, ◌≤◌, ◌<◌, get_or}
use mathlib.Core.List.{List, [], ◌∷◌, Memᴰ}
use Rattle.schedules.specs.Schedules.{Demand, Schedule, Sound, load}
use Rattle.method.specs.Intervals.{Interval, intervals}

-- slot t + 1 meets the bound of blower k: it holds at most k − 1 feedings where the blower is idle, at least k where it is busy
abbrev pub Meets : (loads : List ℕ) (k : ℕ) (busy : Bool) (t : ℕ) → Type 0
Meets loads k false t = get_or loads t 0 ≤ k - 1
Meets loads k true t = k ≤ get_or loads t 0

-- keeps a stretch of blower k: each of its slots meets the bound
abbrev pub Keeps : (loads : List ℕ) (k : ℕ) (v : Interval) → Type 0
Keeps loads k v = (t : ℕ) → v.first ≤ suc t → suc t ≤ v.last → Meets loads k v.busy t

-- carries it one slot further: keeps it, and the slot after its last meets the same bound
abbrev pub Carries : (loads : List ℕ) (k : ℕ) (v : Interval) → Type 0
Carries loads k v = Keeps loads k v × Meets loads k v.busy v.last

-- the idle stretch, without slots, that stops at slot 0
abbrev pub no_slots : Interval
no_slots = record { first = 1; last = 0; busy = false }

-- a blower busy from slot 1 counts as having it
abbrev pub with_no_slots : List Interval → List Interval
with_no_slots [] = []
with_no_slots (v ∷ vs) = cond v.busy (no_slots ∷ v ∷ vs) (v ∷ vs)

-- the stretches of blower k, by slot rising
unfoldable pub stretches : (counts : List ℕ) (k : ℕ) → List Interval
stretches counts k = with_no_slots (intervals counts k)

-- stretch u of blower j is settled before stretch v of blower k: by blower from m down, then by slot rising
abbrev pub Before : (j : ℕ) (u : Interval) (k : ℕ) (v : Interval) → Type 0
Before j u k v = (k < j) ⊎ ((j ≡ k) × (u.last < v.last))

-- keeps all stretches settled before stretch v of blower k
abbrev pub KeepsBefore : (blowers : ℕ) (counts loads : List ℕ) (k : ℕ) (v : Interval) → Type 0
KeepsBefore blowers counts loads k v = (j : ℕ) (u : Interval) → j ≤ blowers → Memᴰ u (stretches counts j) → Before j u k v → Keeps loads j u

-- demand 3 of a day with these counts: whichever idle or busy stretch stops before the day's end, every placing that keeps all stretches settled
-- before it and carries it one slot further is unsound under the bounds that planning began with
abbrev pub StretchesStop : (slots blowers : ℕ) (ds : List Demand) (low high counts : List ℕ) → Type 0
StretchesStop slots blowers ds low high counts =
    (k : ℕ) (v : Interval) → 1 ≤ k → k ≤ blowers → Memᴰ v (stretches counts k) → v.last < slots
    → (p : Schedule) → KeepsBefore blowers counts (load slots p) k v → Carries (load slots p) k v → ¬ Sound slots ds low high p
