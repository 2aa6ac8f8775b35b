-- What a step of the method requires and ensures where the cause of a stretch's end is asked for, over words that hold
-- a sound placing under bounds: w as they are lent, w' as they are afterwards. Definitions only. Assumes nothing.
use Rattle.std.specs.Prelude.{◌≡◌, Bool, true, false, not, List, ℕ, ◌<◌, Result, Ok, Err}
use Rattle.schedules.specs.Schedules.{Demand}
use Rattle.schedules.specs.Causes.{Obstacle, obstacle}
use Rattle.placing.specs.declared.Cause.{Cause}
use Rattle.placing.specs.declared.Words.{Words}
use Rattle.placing.specs.CauseCalls.{obstacle_of, is_yes, WithCause}
use Rattle.method.specs.Method.{Bounds, feasible_under}
use Rattle.method.specs.Slotwise.{keep_at}
use Rattle.stretches.specs.Settling.{Under, Kept}

-- why blower k can't be idle or busy in slot t + 1
abbrev pub obstacle_at : (slots : ℕ) → List Demand → (k : ℕ) (busy : Bool) (t : ℕ) → Bounds → Obstacle
obstacle_at slots ds k busy t b = obstacle slots ds (keep_at k busy t b).low (keep_at k busy t b).high

-- `keep_or_cause` answers as `keep` of `stretches`, and a refusal says why
pub record KeptOrCause (r : Result (Unit {0}) Cause) (k : ℕ) (busy : Bool) (t : ℕ) (w w' : Words) : Type 0 where
  pub kept : Kept (is_yes r) k busy t w w'
  pub why : (slots : ℕ) (ds : List Demand) (b : Bounds) → Under slots ds b w → t < slots → feasible_under slots ds (keep_at k busy t b) ≡ false
      → WithCause r (λ c. obstacle_of slots c ≡ obstacle_at slots ds k busy t b)

-- what a step comes to on a day
abbrev pub StepOn : Result (Unit {0}) Cause → (slots : ℕ) → List Demand → (k : ℕ) (busy : Bool) (t : ℕ) → Bounds → (w' : Words) → Type 0
StepOn (Ok _) slots ds k busy t b w' = (feasible_under slots ds (keep_at k busy t b) ≡ true) × Under slots ds (keep_at k busy t b) w'
StepOn (Err c) slots ds k busy t b w' =
    (feasible_under slots ds (keep_at k busy t b) ≡ false) × (obstacle_of slots c ≡ obstacle_at slots ds k busy t b) × Under slots ds (keep_at k (not busy) t b) w'

-- `step`: the blower goes on as it is, or its stretch ends, with the cause, and it changes over
abbrev pub StepTaken : (r : Result (Unit {0}) Cause) (k : ℕ) (busy : Bool) (t : ℕ) (w w' : Words) → Type 0
StepTaken r k busy t w w' =
    (slots : ℕ) (ds : List Demand) (b : Bounds) → Under slots ds b w → t < slots → StepOn r slots ds k busy t b w'
