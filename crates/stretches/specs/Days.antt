-- What planning a whole day requires and ensures. w are words that hold a placing, W and N those of demands, as crate
-- `placing` names them. Definitions only. Assumes nothing.
use Rattle.std.specs.Prelude.{◌≡◌, true, false, Result, Ok, Err, List, ℕ, ◌≤◌, ◌<◌, length, get_or, replicate}
use Rattle.common.specs.Buffers.{padded}
use Rattle.checks.specs.Limits.{max_slots, max_rations}
use Rattle.schedules.specs.Schedules.{Demand, feasible}
use Rattle.schedules.specs.Shortfall.{forced, capacity, critical_set}
use Rattle.schedules.specs.Tabulate.{tab}
use Rattle.placing.specs.declared.Words.{Words}
use Rattle.placing.specs.Represents.{marks_of, DemandWords, SomeDemands, HighWords}
use Rattle.feedings.specs.CellChoice.{ScheduleWords}
use Rattle.stretches.specs.declared.DayPlan.{DayPlan}
use Rattle.stretches.specs.declared.HeldDay.{HeldDay}
use Rattle.method.specs.Method.{Bounds, bounds_under, loads}
use Rattle.method.specs.Feedings.{chosen}
use Rattle.stretches.specs.Settling.{Under, SomeDay, SamePast}

-- what `choose_day` requires: words that hold some day's placing
pub record CanChooseDay (slots rations : ℕ) (w : Words) : Type 0 where
  pub day : SomeDay slots w
  pub short : slots ≤ max_slots
  pub few : rations ≤ max_rations

-- the counts and the feedings of the day that the words held, where no high began above the number m of blowers
pub record DayChosen (slots m rations : ℕ) (w : Words) (p : DayPlan) : Type 0 where
  pub long : length p.counts ≡ max_slots
  pub past : SamePast slots w.high p.counts
  pub counted : (ds : List Demand) (b : Bounds) → Under slots ds b w → ((t : ℕ) → t < slots → get_or b.high t 0 ≤ m)
      → (t : ℕ) → t < slots → get_or p.counts t 0 ≡ get_or (loads slots ds m b) t 0
  pub fed : (ds : List Demand) (b : Bounds) → length ds ≡ rations → Under slots ds b w → ((t : ℕ) → t < slots → get_or b.high t 0 ≤ m)
      → ScheduleWords (length ds) slots (chosen slots ds (loads slots ds m b)) p.fed

-- the plan of a day of m blowers under a high for each slot: a sound placing exists, and the counts and feedings are
-- those of the method
pub record PlanFound (p : DayPlan) (slots m : ℕ) (ds : List Demand) (high : List ℕ) : Type 0 where
  pub can : feasible slots ds (replicate slots 0) high ≡ true
  pub counts_long : length p.counts ≡ max_slots
  pub counted : (t : ℕ) → t < slots → get_or p.counts t 0 ≡ get_or (loads slots ds m (bounds_under slots high)) t 0
  pub counts_past : (t : ℕ) → slots ≤ t → get_or p.counts t 0 ≡ 0
  pub fed : ScheduleWords (length ds) slots (chosen slots ds (loads slots ds m (bounds_under slots high))) p.fed

-- such a day held: no sound placing exists; the set that it shows, what is forced into it and the sum of high over it
pub record HoldFound (r : HeldDay) (slots : ℕ) (ds : List Demand) (high : List ℕ) : Type 0 where
  pub cannot : feasible slots ds (replicate slots 0) high ≡ false
  pub marks_long : length r.marks ≡ max_slots
  pub shown : critical_set slots ds high ≡ tab slots (marks_of r.marks)
  pub marks_past : (t : ℕ) → slots ≤ t → get_or r.marks t 0 ≡ 0
  pub forced_in : r.forced ≡ forced ds (critical_set slots ds high)
  pub high_over : r.capacity ≡ capacity high (critical_set slots ds high)

-- such a day is planned, or held
abbrev pub DayPlanned : (r : Result DayPlan HeldDay) (slots m : ℕ) → List Demand → (high : List ℕ) → Type 0
DayPlanned (Ok p) slots m ds high = PlanFound p slots m ds high
DayPlanned (Err h) slots m ds high = HoldFound h slots ds high

-- the busy blowers of each slot, and the feedings in it: none of a held day
abbrev pub busy_counts : Result DayPlan HeldDay → List ℕ
busy_counts (Ok p) = p.counts
busy_counts (Err h) = replicate max_slots 0

abbrev pub fed_words : Result DayPlan HeldDay → List ℕ
fed_words (Ok p) = p.fed
fed_words (Err h) = replicate max_slots 0

-- what `plan_words` requires: W and N are the words of some demands, and H has a high for each slot, 0 past the day
pub record CanPlan (slots rations : ℕ) (W N H : List ℕ) : Type 0 where
  pub day : SomeDemands slots W N
  pub few : rations ≤ max_rations
  pub highs : length H ≡ max_slots
  pub past : (t : ℕ) → slots ≤ t → get_or H t 0 ≡ 0

-- what it ensures: whatever day the words are, it is planned, where no high is above the number m of blowers
abbrev pub WordsPlanned : (r : Result DayPlan HeldDay) (slots m rations : ℕ) (W N H : List ℕ) → Type 0
WordsPlanned r slots m rations W N H =
    (ds : List Demand) (high : List ℕ) → DemandWords slots ds W N → HighWords slots high H → length ds ≡ rations
    → ((t : ℕ) → t < slots → get_or high t 0 ≤ m) → DayPlanned r slots m ds high

-- H has the highs of a day of m blowers: these, none of them above m, and 0 past the day
pub record HighsOf (slots m : ℕ) (high H : List ℕ) : Type 0 where
  pub each : length high ≡ slots
  pub below : (t : ℕ) → t < slots → get_or high t 0 ≤ m
  pub bytes : H ≡ padded max_slots high

-- it has some highs of such a day
pub record SomeHighs (slots m : ℕ) (H : List ℕ) : Type 0 where
  pub high : List ℕ
  pub are : HighsOf slots m high H

-- what `plan_day` ensures: under whatever highs H has, the day of these demands is planned
abbrev pub DayUnder : (r : Result DayPlan HeldDay) (slots m : ℕ) → List Demand → (H : List ℕ) → Type 0
DayUnder r slots m ds H = (high : List ℕ) → HighsOf slots m high H → DayPlanned r slots m ds high
