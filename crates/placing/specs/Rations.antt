-- Rations as flat numbers, four for each, as the sheet layer gives them: what they ask of a day, and when they are in range. Definitions only.
-- Assumes nothing.
use Rattle.std.specs.Prelude.{◌≡◌, List, ℕ, suc, ◌+◌, ◌-◌, ◌*◌, ◌≤◌, ◌<◌, length, get_or}
use Rattle.line.specs.Layout.{fields}
use Rattle.checks.specs.Limits.{max_slots, max_rations}
use Rattle.schedules.specs.Slots.{window}
use Rattle.schedules.specs.Schedules.{Demand}
use Rattle.schedules.specs.Tabulate.{tab}

-- of ration j, from 0: its first slot, its last slot, its volume
abbrev pub release_at : List ℕ → ℕ → ℕ
release_at numbers j = get_or numbers (fields * j + 1) 0

abbrev pub deadline_at : List ℕ → ℕ → ℕ
deadline_at numbers j = get_or numbers (fields * j + 2) 0

abbrev pub volume_at : List ℕ → ℕ → ℕ
volume_at numbers j = get_or numbers (fields * j + 3) 0

-- what ration j asks of a day of so many slots
abbrev pub demand_at : ℕ → List ℕ → ℕ → Demand
demand_at slots numbers j = record { window = window slots (release_at numbers j) (deadline_at numbers j); volume = volume_at numbers j }

-- what n rations ask
unfoldable pub demands_from : ℕ → ℕ → List ℕ → List Demand
demands_from slots n numbers = tab n (demand_at slots numbers)

-- ration j is in range: 1 ≤ first ≤ last ≤ D, and its volume is at most its window's length
pub record RationAt (slots : ℕ) (numbers : List ℕ) (j : ℕ) : Type 0 where
  pub release : 1 ≤ release_at numbers j
  pub window : release_at numbers j ≤ deadline_at numbers j
  pub deadline : deadline_at numbers j ≤ slots
  pub volume : volume_at numbers j ≤ suc (deadline_at numbers j) - release_at numbers j

-- n rations, each in range, in a day of so many slots
pub record Rations (slots n : ℕ) (numbers : List ℕ) : Type 0 where
  pub short : slots ≤ max_slots
  pub few : n ≤ max_rations
  pub long : length numbers ≡ fields * max_rations
  pub each : (j : ℕ) → j < n → RationAt slots numbers j
