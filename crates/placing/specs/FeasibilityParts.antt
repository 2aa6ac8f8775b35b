-- What the function `is_feasible` requires and ensures. W and N are the words of demands, L and H have a low and a
-- high for each slot. Definitions only. Assumes nothing.
use Rattle.std.specs.Prelude.{◌≡◌, Bool, List, ℕ, length, take}
use Rattle.checks.specs.Limits.{max_slots}
use Rattle.schedules.specs.Schedules.{Demand, feasible}
use Rattle.placing.specs.Represents.{DemandWords, SomeDemands}

-- the words of some demands, and a low and a high for each slot
pub record CanAsk (slots : ℕ) (W N L H : List ℕ) : Type 0 where
  pub day : SomeDemands slots W N
  pub lows : length L ≡ max_slots
  pub highs : length H ≡ max_slots

-- whether a sound placing exists under the lows and highs, of whatever demands the words are
abbrev pub WordsAnswered : (r : Bool) (slots : ℕ) (W N L H : List ℕ) → Type 0
WordsAnswered r slots W N L H =
    (ds : List Demand) → DemandWords slots ds W N → r ≡ feasible slots ds (take slots L) (take slots H)
