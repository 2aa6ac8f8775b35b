-- The words that this layer lends to those above: what they hold, without saying how. F and R are the grid, H the highs
-- and C the spares that go with the lows, S the marks; with a stroke, as they are afterwards. Definitions only. Assumes
-- nothing.
use Rattle.std.specs.Prelude.{◌≡◌, ◌≢◌, Bool, true, false, List, ℕ, ◌-◌, ◌≤◌, ◌<◌, min, max, ltb, length, get_or, set, replicate}
use Rattle.common.specs.Lists.{count}
use Rattle.grid.specs.Grid.{at, load}
use Rattle.loads.specs.Relief.{CanLower}
use Rattle.loads.specs.Meaning.{State, Given, seen_at}
use Rattle.loads.specs.First.{CanStart, Started}
use Rattle.theory.specs.SumsOver.{sum_on}
use Rattle.schedules.specs.Schedules.{Demand, Windows, window_of, volume_of, feasible}
use Rattle.schedules.specs.Shortfall.{forced, critical_set}
use Rattle.schedules.specs.Tabulate.{tab}
use Rattle.schedules.specs.AsFunctions.{free, bound}

-- the words hold a sound placing of the demands under low and high
pub record Represents (slots : ℕ) (ds : List Demand) (low high F R H C : List ℕ) : Type 0 where
  pub windows : Windows slots ds
  pub lows : length low ≡ slots
  pub highs : length high ≡ slots
  pub state : State (length ds) slots (free ds) (volume_of ds) (bound low) (bound high) F R H C

-- what a question about slot t (from 0) requires: that the words are some day's
pub record Ready (F R H C : List ℕ) (t : ℕ) : Type 0 where
  pub fed : CanLower F R H t
  pub rest : CanLower R F C t

-- the high of slot t at most k − 1, and the low of slot t at least k
abbrev pub lowered : List ℕ → ℕ → ℕ → List ℕ
lowered high t k = set high t (min (k - 1) (bound high t))

abbrev pub raised : List ℕ → ℕ → ℕ → List ℕ
raised low t k = set low t (max k (bound low t))

-- `idle` answers whether a sound placing exists with the high of slot t at most k − 1, and leaves one under the bounds
-- kept
pub record Idled (r : Bool) (F R H C F' R' H' : List ℕ) (t k : ℕ) : Type 0 where
  pub others : (u : ℕ) → u ≢ t → get_or H' u 0 ≡ get_or H u 0
  pub answer : (slots : ℕ) (ds : List Demand) (low high : List ℕ) → Represents slots ds low high F R H C → t < slots → r ≡ feasible slots ds low (lowered high t k)
  pub yes : r ≡ true → (slots : ℕ) (ds : List Demand) (low high : List ℕ) → Represents slots ds low high F R H C → t < slots
      → Represents slots ds low (lowered high t k) F' R' H' C
  pub no : r ≡ false → (slots : ℕ) (ds : List Demand) (low high : List ℕ) → Represents slots ds low high F R H C → t < slots
      → Represents slots ds low high F' R' H' C

-- `busy` answers whether a sound placing exists with the low of slot t at least k, and leaves one under the bounds kept
pub record Busied (r : Bool) (F R H C F' R' C' : List ℕ) (t k : ℕ) : Type 0 where
  pub answer : (slots : ℕ) (ds : List Demand) (low high : List ℕ) → Represents slots ds low high F R H C → t < slots → r ≡ feasible slots ds (raised low t k) high
  pub yes : r ≡ true → (slots : ℕ) (ds : List Demand) (low high : List ℕ) → Represents slots ds low high F R H C → t < slots
      → Represents slots ds (raised low t k) high F' R' H C'
  pub no : r ≡ false → (slots : ℕ) (ds : List Demand) (low high : List ℕ) → Represents slots ds low high F R H C → t < slots
      → Represents slots ds low high F' R' H C'

-- W and N are the words of the demands: bit j of word t says that slot t is in the window of demand j, N j is its
-- volume; nothing else is in them
pub record DemandWords (slots : ℕ) (ds : List Demand) (W N : List ℕ) : Type 0 where
  pub windows : Windows slots ds
  pub given : Given (length ds) slots (free ds) (volume_of ds) W N

-- they are the words of some demands, each volume at most its window's length
pub record SomeDemands (slots : ℕ) (W N : List ℕ) : Type 0 where
  pub demands : List Demand
  pub words : DemandWords slots demands W N
  pub fits : (j : ℕ) → j < length demands → volume_of demands j ≤ count (window_of demands j)

-- the highs, as words
pub record HighWords (slots : ℕ) (high H : List ℕ) : Type 0 where
  pub long : length high ≡ slots
  pub same : (t : ℕ) → t < slots → at H t ≡ bound high t

-- the marked slots, the feedings in them, and the sum of the highs over them
abbrev pub marks_of : List ℕ → ℕ → Bool
marks_of S t = ltb 0 (get_or S t 0)

unfoldable pub marked_loads : ℕ → List ℕ → List ℕ → ℕ
marked_loads slots F S = sum_on slots (seen_at S) (load F)

unfoldable pub marked_highs : ℕ → List ℕ → List ℕ → ℕ
marked_highs slots H S = sum_on slots (seen_at S) (at H)

-- what `begin` requires: each volume is at most its window's length, and the spares have a place for each slot
pub record CanBegin (W N H C : List ℕ) : Type 0 where
  pub start : CanStart W N H
  pub spares : length C ≡ 96

-- `begin` answers whether a sound placing within the highs exists, and leaves one; or it marks the set contained in
-- every set of greatest shortfall, and leaves a placing whose feedings in that set are what is forced into it
pub record Begun (r : Bool) (W N H F' R' C' S' : List ℕ) : Type 0 where
  pub fed_long : length F' ≡ 96
  pub marks_long : r ≡ false → length S' ≡ 96
  pub marks_past : r ≡ false → (slots : ℕ) (ds : List Demand) → DemandWords slots ds W N → (t : ℕ) → slots ≤ t
      → get_or S' t 0 ≡ 0
  pub answer : (slots : ℕ) (ds : List Demand) (high : List ℕ) → DemandWords slots ds W N → HighWords slots high H → r ≡ feasible slots ds (replicate slots 0) high
  pub yes : r ≡ true → (slots : ℕ) (ds : List Demand) (high : List ℕ) → DemandWords slots ds W N → HighWords slots high H
      → Represents slots ds (replicate slots 0) high F' R' H C'
  pub marked : r ≡ false → (slots : ℕ) (ds : List Demand) (high : List ℕ) → DemandWords slots ds W N → HighWords slots high H
      → critical_set slots ds high ≡ tab slots (marks_of S')
  pub counted : r ≡ false → (slots : ℕ) (ds : List Demand) (high : List ℕ) → DemandWords slots ds W N → HighWords slots high H
      → forced ds (critical_set slots ds high) ≡ marked_loads slots F' S'

-- the words hold a placing of the windows W with the volumes N, whatever the loads of the slots are
abbrev pub Holds : (W N F R : List ℕ) → Type 0
Holds = Started

-- what `begin_again` requires: the words hold a placing with the volumes N, and each volume of N' is at most its
-- window's length
pub record CanBeginAgain (N N' H F R : List ℕ) : Type 0 where
  pub windows : List ℕ
  pub holds : Holds windows N F R
  pub start : CanStart windows N' H

-- what it ensures: whether the demands of these windows with the volumes N' have a sound placing within the highs; and
-- the words hold a placing with these volumes, within the highs or not
pub record BegunAgain (r : Bool) (N N' H F R F' R' S' : List ℕ) : Type 0 where
  pub holds : (W : List ℕ) → Holds W N F R → Holds W N' F' R'
  pub answer : (W : List ℕ) → Holds W N F R → (slots : ℕ) (ds : List Demand) (high : List ℕ) → DemandWords slots ds W N' → HighWords slots high H
      → r ≡ feasible slots ds (replicate slots 0) high
  pub marks_long : r ≡ false → length S' ≡ 96
