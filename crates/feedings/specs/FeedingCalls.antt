-- What the loops that choose the feedings require and ensure. F and R are the grid, H has the load of each slot, W the choices; with a stroke, as they are
-- afterwards. Definitions only. Assumes nothing.
use Rattle.std.specs.Prelude.{◌≡◌, List, ℕ, suc, ◌≤◌, ◌<◌, length, replicate}
use Rattle.schedules.specs.Schedules.{Demand}
use Rattle.schedules.specs.AsFunctions.{fed}
use Rattle.placing.specs.Represents.{Represents}
use Rattle.feedings.specs.CellChoice.{Feedable, RowWord, ScheduleWords}
use Rattle.method.specs.Feedings.{chosen}
use Rattle.feedings.specs.FeedingState.{Choosing}

-- what `choose_slot` requires: that the words are some day's
pub record CanChooseSlot (F R H : List ℕ) (t rations : ℕ) : Type 0 where
  pub words : Feedable F R H
  pub slot : t < 96
  pub few : rations ≤ 64

-- the word r holds the feedings of slot t in the chosen placing, and the state is that before the next slot
pub record ChoseSlot (r : ℕ) (F R H F' R' H' : List ℕ) (t rations : ℕ) : Type 0 where
  pub words : Feedable F' R' H'
  pub row : (slots : ℕ) (ds : List Demand) (counts : List ℕ) → length ds ≡ rations → t < slots → Choosing slots ds counts t 0 F R H
      → RowWord rations r (λ j. fed (chosen slots ds counts) j t)
  pub next : (slots : ℕ) (ds : List Demand) (counts : List ℕ) → length ds ≡ rations → t < slots → Choosing slots ds counts t 0 F R H
      → Choosing slots ds counts (suc t) 0 F' R' H'

-- what `choose` requires: that the words are some day's, and that no choice is made
pub record CanChoose (F R H W : List ℕ) (slots rations : ℕ) : Type 0 where
  pub words : Feedable F R H
  pub blank : W ≡ replicate 96 0
  pub short : slots ≤ 96
  pub few : rations ≤ 64

-- from words that hold any sound placing with the counts, W holds the chosen one
pub record Chose (F R H W : List ℕ) (slots rations : ℕ) : Type 0 where
  pub holds : (ds : List Demand) (counts C : List ℕ) → length ds ≡ rations → Represents slots ds counts counts F R H C
      → ScheduleWords (length ds) slots (chosen slots ds counts) W
