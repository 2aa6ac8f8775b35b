-- Halls behind one mains fuse (request 108): the problem that each is, what it uses, what the call answers and what it
-- leaves in each lent buffer. A hall's highs are `hall_high` of `hall_uses`. Definitions only. Assumes nothing.
use Rattle.std.specs.Prelude.{Bool, ◌||◌, cond, List, [], ◌∷◌, ◌++◌, map, ℕ, ◌+◌, eqb, get_or, take, drop, replicate}
use Rattle.common.specs.Lists.{zip_with}
use Rattle.checks.specs.declared.Refusal.{Refusal}
use Rattle.checks.specs.Limits.{max_slots}
use Rattle.checks.specs.Sheet.{Sheet, sheet_of}
use Rattle.checks.specs.Checks.{outside, first_refusal, faults}
use Rattle.checks.specs.CallChecks.{halls_checks}
use Rattle.planning.specs.declared.Planned.{Planned}
use Rattle.planning.specs.Problem.{Problem, whole_day, listing_of, words_for}
use Rattle.planning.specs.Planning.{plan_checks, short_plan, short_placing, listed_answer, listing_after, placing_after, busy_after}
use Rattle.hall_uses.specs.Uses.{hall_high}
use Rattle.halls.specs.declared.HallsPlanned.{HallsPlanned}

-- the limit on busy blowers in a slot, at most
abbrev pub max_limit : ℕ
max_limit = 32

-- the halls of a call, at most
abbrev pub max_halls : ℕ
max_halls = 4

-- A plan buffer and a placing buffer, as they are lent for a hall or as they are left.
pub record Buffers : Type 0 where
  pub listing : List ℕ
  pub placing : List ℕ

-- A hall: the bytes of its sheet, and its buffers.
pub record Hall : Type 0 where
  pub bytes : List ℕ
  pub buffers : Buffers

abbrev pub lent : (bytes listing placing : List ℕ) → Hall
lent bytes listing placing = record { bytes = bytes; buffers = record { listing = listing; placing = placing } }

abbrev pub no_hall : Hall
no_hall = lent [] [] []

-- the halls that the call is lent, in list order
abbrev pub four : (a b c d : Hall) → List Hall
four a b c d = a ∷ b ∷ c ∷ d ∷ []

-- What is answered for a hall, and its buffers afterwards.
pub record HallOutcome : Type 0 where
  pub answer : Planned
  pub buffers : Buffers

-- One hall --------------------------------------------------------------------
--
-- `used` has for each of 96 slots the busy blowers of the halls before it.

-- its sheet is planned, or held, under its highs (`hall_high`): in each slot the smaller of its own blowers and the limit
-- less what earlier halls use
unfoldable pub hall_problem : (limit : ℕ) (used : List ℕ) → Hall → Problem
hall_problem limit used h = let s : Sheet = sheet_of h.bytes in whole_day s (hall_high limit used s.slots s.blowers)

-- one of its buffers is too short
unfoldable pub short_hall : Hall → Bool
short_hall h = short_plan h.buffers.listing || short_placing h.buffers.placing

-- 1 to 9 and 13 of its sheet; 10; 12 under its highs
unfoldable pub hall_refusal : (limit : ℕ) (used : List ℕ) → Hall → Refusal
hall_refusal limit used h = first_refusal (plan_checks (faults h.bytes) (short_hall h) (hall_problem limit used h))

-- what it uses in each of 96 slots: the counts of its plan, nothing past its own last slot, and nothing at all where it
-- is refused by any number
unfoldable pub used_by : (limit : ℕ) (used : List ℕ) → Hall → List ℕ
used_by limit used h = busy_after (hall_refusal limit used h) (hall_problem limit used h)

-- what it and the halls before it use
unfoldable pub used_after : (limit : ℕ) (used : List ℕ) → Hall → List ℕ
used_after limit used h = zip_with ◌+◌ used (used_by limit used h)

-- its number, line and length, and its buffers afterwards
unfoldable pub hall_outcome : (limit : ℕ) (used : List ℕ) → Hall → HallOutcome
hall_outcome limit used h =
    let r : Refusal = hall_refusal limit used h in
    let p : Problem = hall_problem limit used h in
    record {
      answer = listed_answer r (listing_of p);
      buffers =
          record {
            listing = listing_after r (listing_of p) h.buffers.listing;
            placing = placing_after r (words_for p) h.buffers.placing;
          };
    }

-- Halls in list order ------------------------------------------------------------

-- before the first hall
abbrev pub none_used : List ℕ
none_used = replicate max_slots 0

-- each under what the halls before it use
unfoldable pub halls_in_order : (limit : ℕ) (used : List ℕ) → List Hall → List HallOutcome
halls_in_order limit used [] = []
halls_in_order limit used (h ∷ hs) = hall_outcome limit used h ∷ halls_in_order limit (used_after limit used h) hs

-- what all of them use
unfoldable pub used_by_all : (limit : ℕ) (used : List ℕ) → List Hall → List ℕ
used_by_all limit used [] = used
used_by_all limit used (h ∷ hs) = used_by_all limit (used_after limit used h) hs

-- what the halls before hall i use, i from 0
abbrev pub used_before : (limit : ℕ) → List Hall → (i : ℕ) → List ℕ
used_before limit hs i = used_by_all limit none_used (take i hs)

-- The call ------------------------------------------------------------------------

-- 14, before all sheets: the limit outside 1 to 32, or the halls outside 1 to 4
unfoldable pub halls_faults : (limit halls : ℕ) → List Refusal
halls_faults limit halls = halls_checks (outside 1 max_limit limit) (outside 1 max_halls halls)

unfoldable pub halls_refusal : (limit halls : ℕ) → Refusal
halls_refusal limit halls = first_refusal (halls_faults limit halls)

abbrev pub nothing : Planned
nothing = record { number = 0; line = 0; length = 0 }

-- a hall that is not planned: zeros, and its buffers as they were lent
abbrev pub not_planned : Hall → HallOutcome
not_planned h = record { answer = nothing; buffers = h.buffers }

-- of the halls lent, so many are there and are planned; with 14 none is
unfoldable pub outcomes : (limit halls : ℕ) → List Hall → List HallOutcome
outcomes limit halls hs =
    cond (eqb (halls_refusal limit halls).number 0)
    (halls_in_order limit none_used (take halls hs) ++ map not_planned (drop halls hs))
    (map not_planned hs)

-- of hall i of those lent, i from 0
unfoldable pub outcome_of : (limit halls : ℕ) → List Hall → (i : ℕ) → HallOutcome
outcome_of limit halls hs i = get_or (outcomes limit halls hs) i (not_planned no_hall)

unfoldable pub halls_answer : (limit halls : ℕ) → List Hall → HallsPlanned
halls_answer limit halls hs =
    let r : Refusal = halls_refusal limit halls in
    record {
      number = r.number;
      line = r.line;
      first = (outcome_of limit halls hs 0).answer;
      second = (outcome_of limit halls hs 1).answer;
      third = (outcome_of limit halls hs 2).answer;
      fourth = (outcome_of limit halls hs 3).answer;
    }
