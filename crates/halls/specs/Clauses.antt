-- What the functions within the crate require and ensure. Definitions only. Assumes nothing.
use Rattle.std.specs.Prelude.{◌≡◌, Bool, cond, List, ℕ, ◌≤◌, ◌<◌, length, get_or}
use Rattle.checks.specs.declared.Refusal.{Refusal}
use Rattle.checks.specs.Limits.{max_slots}
use Rattle.halls.specs.declared.HallPlanned.{HallPlanned}
use Rattle.halls.specs.declared.HallsPlanned.{HallsPlanned}
use Rattle.halls.specs.Halls.{Hall, HallOutcome, nothing, max_limit, used_after, hall_outcome, not_planned}

-- what halls use under a limit of the call
pub record Used (limit : ℕ) (used : List ℕ) : Type 0 where
  pub most : limit ≤ max_limit
  pub long : length used ≡ max_slots
  pub within : (t : ℕ) → t < max_slots → get_or used t 0 ≤ limit

-- an answer and buffers left
abbrev pub left : HallPlanned → (listing placing : List ℕ) → HallOutcome
left r listing placing = record { answer = r.planned; buffers = record { listing = listing; placing = placing } }

-- `plan_hall`
pub record HallDone (limit : ℕ) (used : List ℕ) (h : Hall) (r : HallPlanned) (listing placing : List ℕ) : Type 0 where
  pub outcome : left r listing placing ≡ hall_outcome limit used h
  pub uses : r.used ≡ used_after limit used h

-- `plan_hall_if`: a hall that is there or not
unfoldable pub outcome_if : Bool → (limit : ℕ) (used : List ℕ) → Hall → HallOutcome
outcome_if there limit used h = cond there (hall_outcome limit used h) (not_planned h)

unfoldable pub used_if : Bool → (limit : ℕ) (used : List ℕ) → Hall → List ℕ
used_if there limit used h = cond there (used_after limit used h) used

pub record HallDoneIf (there : Bool) (limit : ℕ) (used : List ℕ) (h : Hall) (r : HallPlanned) (listing placing : List ℕ) : Type 0 where
  pub outcome : left r listing placing ≡ outcome_if there limit used h
  pub uses : r.used ≡ used_if there limit used h

-- a refusal as the answer of the call
abbrev pub refused_halls : Refusal → HallsPlanned
refused_halls f = record { number = f.number; line = f.line; first = nothing; second = nothing; third = nothing; fourth = nothing }
