-- Rations cut to an equal share (request 111): the cut sheet, and the greatest share for which a sound placing exists.
-- Definitions only. Assumes nothing.
use Rattle.std.specs.Prelude.{Bool, map, ℕ, ◌*◌, ◌/◌}
use Rattle.checks.specs.Sheet.{Job, Sheet}
use Rattle.schedules.specs.Schedules.{feasible}
use Rattle.schedules.specs.Demands.{demands_of, no_low, full_high}
use Rattle.method.specs.Method.{longest}

-- a share is a number of hundredths, from 0 to 100
abbrev pub max_share : ℕ
max_share = 100

-- volume × share / 100, rounded down
unfoldable pub cut_volume : (share volume : ℕ) → ℕ
cut_volume share volume = volume * share / 100

-- a ration cut to a share: the tank and the window stay
unfoldable pub cut_job : (share : ℕ) → Job → Job
cut_job share j =
    record { tank = j.tank; release = j.release; deadline = j.deadline; volume = cut_volume share j.volume }

-- the cut sheet: each ration is cut in its place, also one of which 0 is left
unfoldable pub cut_sheet : (share : ℕ) → Sheet → Sheet
cut_sheet share s =
    record { slots = s.slots; blowers = s.blowers; wake = s.wake; jobs = map (cut_job share) s.jobs }

-- the rations of a sheet have a sound placing: without further word, low is 0 and high is m
unfoldable pub feasible_sheet : Sheet → Bool
feasible_sheet s = feasible s.slots (demands_of s) (no_low s) (full_high s)

-- the greatest share from 0 to 100 for which the cut sheet has one
unfoldable pub greatest_share : Sheet → ℕ
greatest_share s = longest (λ share. feasible_sheet (cut_sheet share s)) max_share
