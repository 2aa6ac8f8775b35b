-- What demand 2 asks of one plan: that the feedings, and the lines of the listing, are those of Parallel Left-to-Right.
-- All is said of a problem (Problem.antt of `planning`). The idle step sets high to the smaller of itself and k − 1;
-- for a sheet planned alone, where no high begins below m, that is the step as document 01 words it (`worded` of
-- DemandTwo.antt). Definitions only. Assumes nothing.
use Rattle.std.specs.Prelude.{◌≡◌, List, ℕ, ◌≤◌, length}
use Rattle.schedules.specs.Schedules.{Schedule, load}
use Rattle.schedules.specs.Rest.{together}
use Rattle.method.specs.Method.{Bounds, bounds_under, settle_all}
use Rattle.method.specs.Intervals.{Interval}
use Rattle.method.specs.SettledRuns.{settled_runs, bounds_at_turn}
use Rattle.method.specs.Feedings.{Greedy}
use Rattle.energy.specs.Energy.{starts, energy}
use Rattle.plan_lines.specs.Lines.{Line, stretch_lines, feed_lines}
use Rattle.planning.specs.Problem.{Problem, left, room, MayPlace}
use Rattle.planning.specs.ReadListing.{tanks, head_line, stretch_part, feed_part, stretches_on, placing_on}
use Rattle.demands.specs.Outcome.{load_of}

-- some placing may be taken
abbrev pub HasPlacing : Problem → Type 0
HasPlacing p = (q : Schedule) × MayPlace p q

-- the bounds that the method begins with: low is 0, high is the room left
abbrev pub begun : Problem → Bounds
begun p = bounds_under p.sheet.slots (room p)

-- the bounds that it ends with
abbrev pub settled : Problem → Bounds
settled p = settle_all p.sheet.slots (left p) p.sheet.blowers (begun p)

-- the runs that it took when it came to blower k: idle for the longest run, then busy for the longest, and so on
abbrev pub runs_of : Problem → (k : ℕ) → List Interval
runs_of p k =
    settled_runs p.sheet.slots (left p) k p.sheet.slots 1 (bounds_at_turn p.sheet.slots (left p) p.sheet.blowers k (begun p))

-- Of a placing.
pub record ChosenByMethod (p : Problem) (q : Schedule) : Type 0 where
  -- it has the feedings kept, and those of the rest of the day
  pub rest : Schedule
  pub with_kept : q ≡ together p.sheet.slots (length p.sheet.jobs) p.kept rest
  -- the method ends with low and high equal in each slot; so many feedings of the rest are in it
  pub low_is_high : (settled p).low ≡ (settled p).high
  pub counts : load p.sheet.slots rest ≡ (settled p).low
  -- cell by cell, by slot and then in sheet order: where a sound placing of what is left with these counts makes the
  -- same choices so far and feeds the ration, so does the rest
  pub chosen : Greedy p.sheet.slots (left p) (settled p).low rest
  -- of a whole day the rest is all, and the method gives each slot's count
  pub whole : p.cut ≡ 0 → (q ≡ rest) × (load_of p.sheet q ≡ (settled p).low)

-- the placing on the feed lines
abbrev pub placing_of : Problem → List Line → Schedule
placing_of p ls = placing_on p.sheet.slots p.sheet.jobs (feed_part ls)

-- Of the lines of a listing.
pub record ByMethod (p : Problem) (ls : List Line) : Type 0 where
  pub feedings : ChosenByMethod p (placing_of p ls)
  -- slot after slot, the rations fed in it, in sheet order and with the blowers from 1 up: slot, blower, tank, part
  pub feed_lines_lem : feed_part ls ≡ feed_lines p.sheet.slots (tanks p.sheet) (placing_of p ls)
  -- blower after blower from 1 up, its stretches from slot 1 on: blower, first, last, state
  pub stretch_lines_lem : stretch_part ls ≡ stretch_lines p.sheet.blowers p.sheet.wake (load_of p.sheet (placing_of p ls))
  -- of a whole day, the stretches on them are the runs that the method took
  pub runs : p.cut ≡ 0 → (k : ℕ) → 1 ≤ k → k ≤ p.sheet.blowers → stretches_on (stretch_part ls) k ≡ runs_of p k
  -- the head line: energy and starts
  pub energy_is : (head_line ls).a ≡ energy p.sheet.blowers p.sheet.wake (load_of p.sheet (placing_of p ls))
  pub starts_are : (head_line ls).b ≡ starts p.sheet.blowers p.sheet.wake (load_of p.sheet (placing_of p ls))
