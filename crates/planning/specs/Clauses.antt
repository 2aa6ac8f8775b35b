-- What the functions within the crate and those for the layers above require and ensure. Definitions only. Assumes
-- nothing.
use Rattle.std.specs.Prelude.{◌≡◌, Bool, true, false, ◌||◌, Result, Ok, Err, List, ℕ, ◌≤◌, ◌<◌, length, get_or, replicate}
use Rattle.checks.specs.declared.Refusal.{Refusal}
use Rattle.sheet.specs.declared.Reading.{Reading}
use Rattle.checks.specs.Limits.{max_slots}
use Rattle.checks.specs.Refusals.{no_placing}
use Rattle.checks.specs.Sheet.{Sheet}
use Rattle.checks.specs.Checks.{first_refusal}
use Rattle.sheet.specs.Calls.{accepted}
use Rattle.sheet.specs.OwnChecks.{ReadFrom}
use Rattle.schedules.specs.Shortfall.{forced, capacity}
use Rattle.schedules.specs.Tabulate.{tab}
use Rattle.placing.specs.Represents.{marks_of}
use Rattle.feedings.specs.CellChoice.{ScheduleWords}
use Rattle.stretches.specs.declared.DayPlan.{DayPlan}
use Rattle.stretches.specs.declared.HeldDay.{HeldDay}
use Rattle.stretches.specs.Days.{HighsOf, SomeHighs}
use Rattle.listing.specs.Opening.{Written}
use Rattle.planning.specs.declared.Planned.{Planned}
use Rattle.planning.specs.declared.PlannedDay.{PlannedDay}
use Rattle.planning.specs.Problem.{Problem, whole_day, alone, left, room, ProblemInRange, can_be_planned, feedings_of, counts_of, shown_set, listing_of, words_for}
use Rattle.planning.specs.Planning.{plan_checks, plan_refusal_for, short_plan, short_placing, listed_answer, unlisted_answer, listing_after, placing_after, busy_after}

-- The day of a problem ------------------------------------------------------------------------

-- d is the plan of problem p: it can be planned, and these are the counts and the feedings
pub record PlanFor (p : Problem) (d : DayPlan) : Type 0 where
  pub can : can_be_planned p ≡ true
  pub counts_long : length d.counts ≡ max_slots
  pub counted : (t : ℕ) → t < p.sheet.slots → get_or d.counts t 0 ≡ get_or (counts_of p) t 0
  pub fed : ScheduleWords (length p.sheet.jobs) p.sheet.slots (feedings_of p) d.fed
  pub counts_past : (t : ℕ) → p.sheet.slots ≤ t → get_or d.counts t 0 ≡ 0

-- d is problem p held: the slots shown, what is forced into them, and the sum of the room over them
pub record HoldFor (p : Problem) (d : HeldDay) : Type 0 where
  pub cannot : can_be_planned p ≡ false
  pub marks_long : length d.marks ≡ max_slots
  pub shown : shown_set p ≡ tab p.sheet.slots (marks_of d.marks)
  pub forced_in : d.forced ≡ forced (left p) (shown_set p)
  pub high_over : d.capacity ≡ capacity (room p) (shown_set p)

abbrev pub FoundFor : Problem → Result DayPlan HeldDay → Type 0
FoundFor p (Ok d) = PlanFor p d
FoundFor p (Err d) = HoldFor p d

-- d is the day of problem p, whose sheet was read as r
pub record DayOf (p : Problem) (r : Reading) (d : Result DayPlan HeldDay) : Type 0 where
  pub in_range : ProblemInRange p
  pub read : r ≡ accepted p.sheet
  pub found : FoundFor p d

-- d is the day of some problem over the sheet that was read
pub record SomeDay (r : Reading) (d : Result DayPlan HeldDay) : Type 0 where
  pub problem : Problem
  pub day : DayOf problem r d

-- 12 for a held day, 0 for a planned one
abbrev pub NumberOf : Bool → ℕ
NumberOf true = no_placing
NumberOf false = 0

-- Finding it, and writing it ---------------------------------------------------------------------

-- d is the day of whatever sheet was read, planned alone
abbrev pub DayFound : Reading → Result DayPlan HeldDay → Type 0
DayFound r d = (own : List Refusal) (s : Sheet) → ReadFrom own s r → r.number ≡ 0 → DayOf (alone s) r d

-- the same under whatever highs the bytes H have
abbrev pub DayFoundUnder : Reading → (H : List ℕ) → Result DayPlan HeldDay → Type 0
DayFoundUnder r H d =
    (own : List Refusal) (s : Sheet) → ReadFrom own s r → r.number ≡ 0 → (high : List ℕ) → HighsOf r.slots r.blowers high H
    → DayOf (whole_day s high) r d

-- the listing of whatever problem it is the day of was written, and n is its length
abbrev pub DayListed : Reading → Result DayPlan HeldDay → (old new : List ℕ) → ℕ → Type 0
DayListed r d old new n = (p : Problem) → DayOf p r d → Written (listing_of p) old new n

-- Planning a sheet that was read, whatever checks were made of it --------------------------------

-- an answer and a plan buffer afterwards, at a refusal
abbrev pub Listed : Refusal → (listing old new : List ℕ) → Planned → Type 0
Listed f listing old new p = (p ≡ listed_answer f listing) × (new ≡ listing_after f listing old)

-- with a plan buffer lent
abbrev pub ReadListed : Reading → (old new : List ℕ) → Planned → Type 0
ReadListed r old new p =
    (own : List Refusal) (s : Sheet) → ReadFrom own s r → Listed (plan_refusal_for own s (short_plan old)) (listing_of (alone s)) old new p

-- with a placing buffer lent
abbrev pub ReadPlaced : Reading → (old new : List ℕ) → Planned → Type 0
ReadPlaced r old new p =
    (own : List Refusal) (s : Sheet) → ReadFrom own s r
    → (p ≡ unlisted_answer (plan_refusal_for own s (short_placing old))) × (new ≡ placing_after (plan_refusal_for own s (short_placing old)) (words_for (alone s)) old)

-- with both
abbrev pub ReadBoth : Reading → (old new old' new' : List ℕ) → Planned → Type 0
ReadBoth r old new old' new' p =
    (own : List Refusal) (s : Sheet) → ReadFrom own s r
    → Listed (plan_refusal_for own s (short_plan old || short_placing old')) (listing_of (alone s)) old new p
    × (new' ≡ placing_after (plan_refusal_for own s (short_plan old || short_placing old')) (words_for (alone s)) old')

-- where no check of the sheet applied, the bytes H have highs of its day
abbrev pub HighsIfRead : Reading → (H : List ℕ) → Type 0
HighsIfRead r H = r.number ≡ 0 → SomeHighs r.slots r.blowers H

-- an answer, both buffers afterwards and the busy blowers of each slot, at a refusal
pub record UnderAt (f : Refusal) (p : Problem) (old new old' new' : List ℕ) (x : PlannedDay) : Type 0 where
  pub listed : Listed f (listing_of p) old new x.planned
  pub placed : new' ≡ placing_after f (words_for p) old'
  pub busy : x.counts ≡ busy_after f p

-- with both, under whatever highs the bytes H have
abbrev pub ReadUnder : Reading → (H old new old' new' : List ℕ) → PlannedDay → Type 0
ReadUnder r H old new old' new' x =
    (own : List Refusal) (s : Sheet) → ReadFrom own s r → (high : List ℕ) → (r.number ≡ 0 → HighsOf r.slots r.blowers high H)
    → UnderAt (first_refusal (plan_checks own (short_plan old || short_placing old') (whole_day s high))) (whole_day s high) old new old' new' x

-- with none
abbrev pub ReadNumbered : Reading → Planned → Type 0
ReadNumbered r p = (own : List Refusal) (s : Sheet) → ReadFrom own s r → p ≡ unlisted_answer (plan_refusal_for own s false)

-- What is answered -----------------------------------------------------------------------------

-- what was planned, or a refusal, as an answer
abbrev pub as_planned : Result Planned Refusal → Planned
as_planned (Ok p) = p
as_planned (Err f) = record { number = f.number; line = f.line; length = 0 }

abbrev pub as_planned_day : Result PlannedDay Refusal → PlannedDay
as_planned_day (Ok x) = x
as_planned_day (Err f) = record { planned = record { number = f.number; line = f.line; length = 0 }; counts = replicate max_slots 0 }
