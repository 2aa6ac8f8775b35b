-- The day of a sheet: what its rations demand, and its bounds. Definitions only. Assumes nothing.
use Rattle.std.specs.Prelude.{List, map, ℕ, replicate}
use Rattle.checks.specs.Sheet.{Job, Sheet}
use Rattle.schedules.specs.Slots.{window}
use Rattle.schedules.specs.Schedules.{Demand}

-- what a ration asks of a day of so many slots
unfoldable pub demand_of : ℕ → Job → Demand
demand_of slots j = record { window = window slots j.release j.deadline; volume = j.volume }

-- what the sheet's rations ask, in sheet order
unfoldable pub demands_of : Sheet → List Demand
demands_of s = map (demand_of s.slots) s.jobs

-- without further word, low is 0 and high is m
unfoldable pub no_low : Sheet → List ℕ
no_low s = replicate s.slots 0

unfoldable pub full_high : Sheet → List ℕ
full_high s = replicate s.slots s.blowers
