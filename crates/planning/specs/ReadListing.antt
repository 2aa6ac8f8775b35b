-- How a listing is read: its lines as numbers, the slots that a held sheet's listing shows, and the stretches, the
-- feedings and the bill of a plan's. No more is known here of a listing than its form. Definitions only. Assumes
-- nothing.
use Rattle.std.specs.Prelude.{Bool, ◌&&◌, List, map, ℕ, ◌+◌, eqb, leb, get_or, take, drop}
use Rattle.common.specs.Lists.{range, sum, any, keep}
use Rattle.checks.specs.Sheet.{Job, Sheet, line_count, line_at}
use Rattle.line.specs.Line.{value_at}
use Rattle.schedules.specs.Slots.{Slots}
use Rattle.schedules.specs.Schedules.{Schedule}
use Rattle.method.specs.Intervals.{Interval}
use Rattle.planning.specs.declared.Planned.{Planned}
use Rattle.plan_lines.specs.Sizes.{word_bytes}
use Rattle.energy.specs.Listed.{ListedStretch}
use Rattle.bill.specs.Bill.{blower_charge}
use Rattle.plan_lines.specs.Lines.{Line, line}

-- What was written --------------------------------------------------------------------

-- what a call wrote in its plan buffer: as many bytes as its answer says
abbrev pub written : Planned → (buffer : List ℕ) → List ℕ
written answer buffer = take answer.length buffer

-- Lines ---------------------------------------------------------------------------

-- line i of a text, from 0, as four numbers
unfoldable pub line_in : List ℕ → ℕ → Line
line_in text i = line (value_at (line_at text i) 0) (value_at (line_at text i) 1) (value_at (line_at text i) 2) (value_at (line_at text i) 3)

-- all lines of a text
unfoldable pub lines_in : List ℕ → List Line
lines_in text = map (line_in text) (range 0 (line_count text))

-- the lines of a listing, those after its word
unfoldable pub lines_of : List ℕ → List Line
lines_of listing = lines_in (drop word_bytes listing)

-- the first of them, the line of counts of a held sheet and the head line of a plan
unfoldable pub head_line : List Line → Line
head_line ls = get_or ls 0 (line 0 0 0 0)

-- A held sheet's listing ------------------------------------------------------------

-- the slots on the lines that follow the line of counts
unfoldable pub slots_shown : List Line → List ℕ
slots_shown ls = map (λ l. l.a) (drop 1 ls)

-- of a day's slots, those in a list of slot numbers
unfoldable pub slot_set : (slots : ℕ) → List ℕ → Slots
slot_set slots ts = map (λ t. any (eqb t) ts) (range 1 slots)

-- A plan's listing ------------------------------------------------------------------

-- as many stretch lines as the head line says
unfoldable pub stretch_part : List Line → List Line
stretch_part ls = take (head_line ls).c (drop 1 ls)

-- after them, as many feed lines as it says
unfoldable pub feed_part : List Line → List Line
feed_part ls = take (head_line ls).d (drop (head_line ls).c (drop 1 ls))

-- the stretch on a stretch line: first, last, and busy where its state is 2
unfoldable pub stretch_on : Line → Interval
stretch_on l = record { first = l.b; last = l.c; busy = eqb l.d 2 }

-- the stretches of blower k on stretch lines
unfoldable pub stretches_on : List Line → ℕ → List Interval
stretches_on ls k = map stretch_on (keep (λ l. eqb l.a k) ls)

-- the line after the feed lines, the last: the bill
unfoldable pub bill_on : List Line → Line
bill_on ls = get_or ls (1 + (head_line ls).c + (head_line ls).d) (line 0 0 0 0)

-- what the bill takes of a stretch line: blower, first, last, state
unfoldable pub billed : Line → ListedStretch
billed l = record { blower = l.a; first = l.b; last = l.c; state = l.d }

-- the day's charge, from the stretch lines of each blower
unfoldable pub charge_on : (blowers wake : ℕ) → List Line → ℕ
charge_on m q ls = sum (map (λ k. blower_charge q (map billed (keep (λ l. eqb l.a k) ls))) (range 1 m))

-- of feed lines, those of a slot
unfoldable pub in_slot : ℕ → List Line → List Line
in_slot t = keep (λ l. eqb l.a t)

-- those of a tank
unfoldable pub of_tank : ℕ → List Line → List Line
of_tank tank = keep (λ l. eqb l.c tank)

-- and those of a meal, which is a ration: a line of its tank with a slot of its window
abbrev pub is_of : Job → (slot tank : ℕ) → Bool
is_of j slot tank = eqb tank j.tank && (leb j.release slot && leb slot j.deadline)

unfoldable pub of_meal : Job → List Line → List Line
of_meal j = keep (λ l. is_of j l.a l.c)

-- the tanks of a sheet's rations, in sheet order
abbrev pub tanks : Sheet → List ℕ
tanks s = map (λ j. j.tank) s.jobs

-- the placing on feed lines: for each meal, in sheet order, the slots on its lines
unfoldable pub placing_on : (slots : ℕ) → List Job → List Line → Schedule
placing_on slots jobs ls = map (λ j. slot_set slots (map (λ l. l.a) (of_meal j ls))) jobs
