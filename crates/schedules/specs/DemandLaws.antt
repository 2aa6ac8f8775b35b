-- The demands of a sheet: their windows are of the day, and where the sheet is accepted they are few and their volumes fit. Assumes nothing.
use Rattle.std.specs.Prelude.{List, ℕ, ◌≤◌, ◌<◌, length}
use Rattle.common.specs.Lists.{count}
use Rattle.checks.specs.Limits.{max_slots, max_rations}
use Rattle.checks.specs.Sheet.{Job}
use Rattle.schedules.specs.Schedules.{Demand, Windows, window_of, volume_of}

abbrev pub no_job : Job
no_job = record { tank = 0; release = 0; deadline = 0; volume = 0 }

-- What the checks 3 to 9 and 13 leave of the demands of a day.
pub record DemandsInRange (slots : ℕ) (ds : List Demand) : Type 0 where
  pub short : slots ≤ max_slots
  pub few : length ds ≤ max_rations
  pub windows : Windows slots ds
  pub fits : (j : ℕ) → j < length ds → volume_of ds j ≤ count (window_of ds j)
  pub small : (j : ℕ) → j < length ds → volume_of ds j ≤ max_slots
