-- What the demands ask of halls behind one mains fuse: the problem that each hall is, its answer, and the busy blowers
-- that its listing shows. Halls.antt of `halls` says what the call answers and leaves in its buffers. Definitions only.
-- Assumes nothing.
use Rattle.std.specs.Prelude.{◌≡◌, ◌↔◌, cond, List, [], ◌∷◌, ℕ, ◌-◌, ◌<◌, min, eqb, get_or}
use Rattle.checks.specs.Sheet.{Sheet, sheet_of}
use Rattle.checks.specs.Checks.{faults}
use Rattle.schedules.specs.Schedules.{Schedule, Sound}
use Rattle.schedules.specs.Demands.{demands_of, no_low}
use Rattle.planning.specs.declared.Planned.{Planned}
use Rattle.planning.specs.Problem.{Problem, left, room, MayPlace}
use Rattle.planning.specs.Planning.{plan_checks}
use Rattle.planning.specs.ReadListing.{written, lines_of, feed_part, placing_on}
use Rattle.hall_uses.specs.Uses.{hall_high}
use Rattle.halls.specs.declared.HallsPlanned.{HallsPlanned}
use Rattle.halls.specs.Halls.{Hall, Buffers, no_hall, hall_problem, short_hall, used_before, nothing}
use Rattle.demands.specs.Answers.{FirstOf, PlanBuffer, PlacingBuffer}
use Rattle.demands.specs.Outcome.{load_of}

-- hall i of those lent, i from 0, and what is answered for it
abbrev pub hall_in : List Hall → (i : ℕ) → Hall
hall_in hs i = get_or hs i no_hall

abbrev pub answer_in : HallsPlanned → (i : ℕ) → Planned
answer_in r i = get_or (r.first ∷ r.second ∷ r.third ∷ r.fourth ∷ []) i nothing

-- the problem of hall i: its sheet under the highs that the halls before it leave
abbrev pub problem_in : (limit : ℕ) → List Hall → (i : ℕ) → Problem
problem_in limit hs i = hall_problem limit (used_before limit hs i) (hall_in hs i)

-- what that comes to: its rations ask their volumes in their windows, the room in a slot is the smaller of its own
-- blowers and the limit less what earlier halls use, and a placing may be taken where it is sound under this room
pub record HallIs (limit : ℕ) (used : List ℕ) (h : Hall) : Type 0 where
  pub sheet_is : (hall_problem limit used h).sheet ≡ sheet_of h.bytes
  pub left_is : left (hall_problem limit used h) ≡ demands_of (sheet_of h.bytes)
  pub room_is : let s = sheet_of h.bytes in room (hall_problem limit used h) ≡ hall_high limit used s.slots s.blowers
  pub room_at : (t : ℕ) → t < (sheet_of h.bytes).slots
      → get_or (room (hall_problem limit used h)) t 0 ≡ min (sheet_of h.bytes).blowers (limit - get_or used t 0)
  pub may_is : (q : Schedule) → let s = sheet_of h.bytes in
      MayPlace (hall_problem limit used h) q ↔ Sound s.slots (demands_of s) (no_low s) (hall_high limit used s.slots s.blowers) q

-- the busy blowers that the listing of a hall shows in slot t, from 0: the feedings on its lines where number 0 was
-- given, and none on any other number
unfoldable pub busy_in : Hall → Planned → (listing : List ℕ) (t : ℕ) → ℕ
busy_in h a listing t =
    let s : Sheet = sheet_of h.bytes in
    cond (eqb a.number 0) (get_or (load_of s (placing_on s.slots s.jobs (feed_part (lines_of (written a listing))))) t 0) 0

-- The answer to a hall that is a problem p: the first of its checks that applies, and its buffers.
pub record HallAnswer (p : Problem) (h : Hall) (a : Planned) (o : Buffers) : Type 0 where
  pub first : FirstOf (plan_checks (faults h.bytes) (short_hall h) p) a.number a.line
  pub listing : PlanBuffer p a.number a.length h.buffers.listing o.listing
  pub placing : PlacingBuffer p a.number h.buffers.placing o.placing
