-- What is planned, whatever call asks for it: the rations of a sheet under a high for each slot, with the feedings
-- before some slot fixed; whether it can be planned, the placing that the method gives, and the listing. Definitions
-- only. Assumes nothing.
use Rattle.std.specs.Prelude.{◌≡◌, Bool, true, false, List, [], map, ℕ, ◌≤◌, ◌<◌, length, get_or}
use Rattle.checks.specs.Sheet.{Sheet}
use Rattle.checks.specs.RangeLaws.{ValuesInRange}
use Rattle.schedules.specs.Slots.{Slots}
use Rattle.schedules.specs.Schedules.{Demand, Schedule, Sound, load, feasible}
use Rattle.schedules.specs.Shortfall.{forced, capacity, critical_set}
use Rattle.schedules.specs.Demands.{demands_of, no_low, full_high}
use Rattle.schedules.specs.Rest.{rest_demands, rest_high, KeptBefore, SameBefore, together, no_feedings}
use Rattle.method.specs.Method.{bounds_under, loads}
use Rattle.method.specs.Feedings.{chosen}
use Rattle.plan_lines.specs.Lines.{Plan}
use Rattle.plan_lines.specs.Text.{plan_text, held_text}
use Rattle.plan_lines.specs.PlacingForms.{words_of}

-- The problem ---------------------------------------------------------------------------------------

pub record Problem : Type 0 where
  pub sheet : Sheet  -- D, m, q, and the rations
  pub high : List ℕ  -- for each slot, the most feedings that it may hold
  pub cut : ℕ  -- the slots before this one are fixed; 0 for a whole day
  pub kept : Schedule  -- the feedings in them

-- a placing of the sheet's rations is sound where, without further word, low is 0 and high is m
abbrev pub SoundPlacing : Sheet → Schedule → Type 0
SoundPlacing s q = Sound s.slots (demands_of s) (no_low s) (full_high s) q

-- a whole day under highs: nothing is fixed
abbrev pub whole_day : Sheet → (high : List ℕ) → Problem
whole_day s high = record { sheet = s; high = high; cut = 0; kept = no_feedings s.slots (length s.jobs) }

-- a sheet planned alone: without further word, high is m
abbrev pub alone : Sheet → Problem
alone s = whole_day s (full_high s)

-- what is left of each ration: its volume less the feedings kept, in the part of its window from the cut on
unfoldable pub left : Problem → List Demand
left p = rest_demands p.sheet.slots p.cut (demands_of p.sheet) p.kept

-- the room left: the highs from the cut on, 0 before it
unfoldable pub room : Problem → List ℕ
room p = rest_high p.sheet.slots p.cut p.high

-- a placing is sound under the highs, and contains the feedings kept and no others before the cut
abbrev pub MayPlace : Problem → Schedule → Type 0
MayPlace p q = Sound p.sheet.slots (demands_of p.sheet) (no_low p.sheet) p.high q
    × SameBefore p.sheet.slots p.cut (length p.sheet.jobs) p.kept q

-- Its numbers are in range: those of the sheet, where a volume may be 0 (request 111), a high for each slot and none
-- above m, and feedings that may be kept.
pub record ProblemInRange (p : Problem) : Type 0 where
  pub values : ValuesInRange 0 p.sheet (length p.sheet.jobs) true
  pub highs : length p.high ≡ p.sheet.slots
  pub below : (t : ℕ) → t < p.sheet.slots → get_or p.high t 0 ≤ p.sheet.blowers
  pub keeps : KeptBefore p.sheet.slots p.cut (demands_of p.sheet) p.high p.kept

-- The day of a problem ------------------------------------------------------------------------------

-- what is left has a sound placing in the room left
unfoldable pub can_be_planned : Problem → Bool
can_be_planned p = feasible p.sheet.slots (left p) (no_low p.sheet) (room p)

-- the count of each slot, by Parallel Left-to-Right, of what is left
unfoldable pub settled_counts : Problem → List ℕ
settled_counts p = loads p.sheet.slots (left p) p.sheet.blowers (bounds_under p.sheet.slots (room p))

-- the feedings: those kept, and those that the method chooses
unfoldable pub feedings_of : Problem → Schedule
feedings_of p =
    together p.sheet.slots (length p.sheet.jobs) p.kept (chosen p.sheet.slots (left p) (settled_counts p))

-- the count of each slot of the whole day
unfoldable pub counts_of : Problem → List ℕ
counts_of p = load p.sheet.slots (feedings_of p)

-- Q, the set contained in every set of greatest shortfall
unfoldable pub shown_set : Problem → Slots
shown_set p = critical_set p.sheet.slots (left p) (room p)

-- Its listing ---------------------------------------------------------------------------------------

-- the plan of a sheet with a placing of its rations: what is listed depends on the placing alone, however it was found
unfoldable pub plan_with : Sheet → Schedule → Plan
plan_with s q =
    record {
      slots = s.slots;
      blowers = s.blowers;
      wake = s.wake;
      tanks = map (λ j. j.tank) s.jobs;
      counts = load s.slots q;
      placing = q;
    }

-- the plan
abbrev pub plan_for : Problem → Plan
plan_for p = plan_with p.sheet (feedings_of p)

-- its listing
abbrev pub plan_listing : Problem → List ℕ
plan_listing p = plan_text (plan_for p)

-- the listing of a problem held for want of blowers: Q, what is forced into it, and the sum of the room over it
abbrev pub held_listing : Problem → List ℕ
held_listing p = held_text (shown_set p) (forced (left p) (shown_set p)) (capacity (room p) (shown_set p))

unfoldable pub listing_of : Problem → List ℕ
listing_of p = elim (can_be_planned p) [ true ↦ plan_listing p | false ↦ held_listing p ]

-- the placing buffer's words: all 0 where nothing is planned
unfoldable pub words_for : Problem → List ℕ
words_for p = elim (can_be_planned p) [ true ↦ words_of (feedings_of p) | false ↦ words_of [] ]
