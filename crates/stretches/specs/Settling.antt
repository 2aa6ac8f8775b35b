-- What the code of the method requires and ensures, over words that hold a sound placing under bounds: w as they are
-- lent, w' as they are afterwards. Definitions only. Assumes nothing.
use Rattle.std.specs.Prelude.{◌≡◌, ◌≢◌, Bool, true, false, List, ℕ, ◌-◌, ◌≤◌, ◌<◌, get_or}
use Rattle.schedules.specs.Schedules.{Demand}
use Rattle.placing.specs.declared.Words.{Words}
use Rattle.placing.specs.WordCalls.{HeldIn}
use Rattle.method.specs.Method.{Bounds, feasible_under}
use Rattle.method.specs.Slotwise.{keep_at, busy_at, settle_from, settle_each}

-- the words hold a sound placing of the demands under these bounds
abbrev pub Under : (slots : ℕ) → List Demand → Bounds → Words → Type 0
Under slots ds b w = HeldIn slots ds b.low b.high w

-- they do so for some demands and bounds of a day of so many slots
pub record SomeDay (slots : ℕ) (w : Words) : Type 0 where
  pub demands : List Demand
  pub bounds : Bounds
  pub under : Under slots demands bounds w

-- slot t of some day
pub record SomeSlot (t : ℕ) (w : Words) : Type 0 where
  pub slots : ℕ
  pub day : SomeDay slots w
  pub inside : t < slots

-- `keep` answers whether blower k can be idle or busy in slot t + 1; if so the words keep that, and if not they hold
-- the same day as before
pub record Kept (r : Bool) (k : ℕ) (busy : Bool) (t : ℕ) (w w' : Words) : Type 0 where
  pub answer : (slots : ℕ) (ds : List Demand) (b : Bounds) → Under slots ds b w → t < slots → r ≡ feasible_under slots ds (keep_at k busy t b)
  pub yes : r ≡ true → (slots : ℕ) (ds : List Demand) (b : Bounds) → Under slots ds b w → t < slots → Under slots ds (keep_at k busy t b) w'
  pub no : r ≡ false → (slots : ℕ) (ds : List Demand) (b : Bounds) → Under slots ds b w → t < slots → Under slots ds b w'
  pub others : (u : ℕ) → u ≢ t → get_or w'.high u 0 ≡ get_or w.high u 0

-- what `step` ensures: r is what blower k does in slot t + 1, and the words keep that
pub record Stepped (r : Bool) (k : ℕ) (busy : Bool) (t : ℕ) (w w' : Words) : Type 0 where
  pub does : (slots : ℕ) (ds : List Demand) (b : Bounds) → Under slots ds b w → t < slots → r ≡ busy_at slots ds k busy t b
  pub keeps : (slots : ℕ) (ds : List Demand) (b : Bounds) → Under slots ds b w → t < slots → Under slots ds (keep_at k r t b) w'
  pub others : (u : ℕ) → u ≢ t → get_or w'.high u 0 ≡ get_or w.high u 0

-- the highs past the day are as they were
abbrev pub SamePast : (slots : ℕ) (H H' : List ℕ) → Type 0
SamePast slots H H' = (u : ℕ) → slots ≤ u → get_or H' u 0 ≡ get_or H u 0

-- what `settle_blower` ensures: blower k is settled in every slot
pub record Settled (slots k : ℕ) (w w' : Words) : Type 0 where
  pub settled : (ds : List Demand) (b : Bounds) → Under slots ds b w
      → Under slots ds (settle_from slots ds k false slots 0 b) w'
  pub past : SamePast slots w.high w'.high

-- what `settle` ensures: so are all blowers
pub record AllSettled (slots m : ℕ) (w w' : Words) : Type 0 where
  pub settled : (ds : List Demand) (b : Bounds) → Under slots ds b w
      → Under slots ds (settle_each slots ds m b) w'
  pub past : SamePast slots w.high w'.high

-- blower k is settled in the slots before slot t + 1, up to which it is idle or busy: what is left to settle is what is
-- left of the whole
pub record Left (slots k : ℕ) (busy : Bool) (t : ℕ) (ds : List Demand) (b : Bounds) (w : Words) : Type 0 where
  pub bounds : Bounds
  pub under : Under slots ds bounds w
  pub same : settle_from slots ds k false slots 0 b ≡ settle_from slots ds k busy (slots - t) t bounds

-- blowers from m down to k + 1 are settled
pub record LeftBlowers (slots m k : ℕ) (ds : List Demand) (b : Bounds) (w : Words) : Type 0 where
  pub bounds : Bounds
  pub under : Under slots ds bounds w
  pub same : settle_each slots ds m b ≡ settle_each slots ds k bounds

-- the states of the two loops: whatever day the words held at first, so much of it is left to settle
abbrev pub Passing : (slots k : ℕ) (busy : Bool) (t : ℕ) (w₀ w : Words) → Type 0
Passing slots k busy t w₀ w = (ds : List Demand) (b : Bounds) → Under slots ds b w₀ → Left slots k busy t ds b w

abbrev pub PassingBlowers : (slots m k : ℕ) (w₀ w : Words) → Type 0
PassingBlowers slots m k w₀ w = (ds : List Demand) (b : Bounds) → Under slots ds b w₀ → LeftBlowers slots m k ds b w
