-- The planning calls: what each answers, and what it leaves in the buffers lent to it. Definitions only. Assumes
-- nothing.
use Rattle.std.specs.Prelude.{Bool, ◌||◌, not, cond, List, ℕ, ltb, eqb, length, replicate}
use Rattle.checks.specs.declared.Refusal.{Refusal}
use Rattle.checks.specs.Limits.{max_slots}
use Rattle.checks.specs.Refusals.{no_placing}
use Rattle.checks.specs.Sheet.{sheet_of, Sheet}
use Rattle.checks.specs.Checks.{fault, first_refusal, faults}
use Rattle.checks.specs.CallChecks.{planning_checks}
use Rattle.common.specs.Buffers.{over, padded}
use Rattle.plan_lines.specs.Sizes.{plan_bytes, placing_words}
use Rattle.planning.specs.declared.Planned.{Planned}
use Rattle.planning.specs.Problem.{Problem, alone, can_be_planned, counts_of}

-- Refusals ------------------------------------------------------------------------

-- 12: no sound placing
abbrev pub held_faults : Problem → List Refusal
held_faults p = fault no_placing 0 (not (can_be_planned p))

-- the checks of a call that plans: those of the sheet alone; then 10, a lent buffer that is too short; then 12
abbrev pub plan_checks : (own : List Refusal) (short : Bool) → Problem → List Refusal
plan_checks own short p = planning_checks own short (not (can_be_planned p))

-- of a sheet that is planned alone
abbrev pub plan_refusal_for : (own : List Refusal) → Sheet → (short : Bool) → Refusal
plan_refusal_for own s short = first_refusal (plan_checks own short (alone s))

-- of a sheet's bytes: 1 to 9 and 13; then 10 and 12
unfoldable pub plan_refusal : List ℕ → Bool → Refusal
plan_refusal b short = plan_refusal_for (faults b) (sheet_of b) short

unfoldable pub short_plan : List ℕ → Bool
short_plan listing = ltb (length listing) plan_bytes

unfoldable pub short_placing : List ℕ → Bool
short_placing placing = ltb (length placing) placing_words

-- every number but 0 and 12 changes nothing that is lent and gives length 0
unfoldable pub writes : ℕ → Bool
writes number = eqb number 0 || eqb number no_placing

-- The answers -----------------------------------------------------------------

-- with a plan buffer and this listing: the length is that of the listing written, for 12 too
unfoldable pub listed_answer : Refusal → (listing : List ℕ) → Planned
listed_answer r listing = record { number = r.number; line = r.line; length = cond (writes r.number) (length listing) 0 }

-- without one: no listing is written
unfoldable pub unlisted_answer : Refusal → Planned
unlisted_answer r = record { number = r.number; line = r.line; length = 0 }

-- a lent plan buffer afterwards: bytes after the listing keep their values
unfoldable pub listing_after : Refusal → (listing old : List ℕ) → List ℕ
listing_after r listing old = cond (writes r.number) (over listing old) old

-- a lent placing buffer afterwards, with these words: words after them keep their values
unfoldable pub placing_after : Refusal → (words old : List ℕ) → List ℕ
placing_after r words old = cond (writes r.number) (over words old) old

-- the busy blowers of each of 96 slots: the counts of a plan, 0 past its last slot, and none at all where the sheet is
-- refused, 12 too
unfoldable pub busy_after : Refusal → Problem → List ℕ
busy_after r p = cond (eqb r.number 0) (padded max_slots (counts_of p)) (replicate max_slots 0)
