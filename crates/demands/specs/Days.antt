-- The days of 'Days at the edge' as one table: a question about a sheet's text, beside what document 01 says, and
-- requests 101 to 111 where they change that or say more. `answer` gives the answer of the definitions; a plan's
-- numbers are read off the program's whole output. Assumes nothing.
use Rattle.std.specs.Prelude.{◌≡◌, refl, Bool, false, ◌||◌, List, [], ◌∷◌, map, ℕ, ℤ, pos, negsuc, length, take, replicate}
use Prim.Native.String.{String}
use Rattle.common.specs.Lists.{range, flat_map}
use Rattle.checks.specs.declared.Refusal.{Refusal}
use Rattle.checks.specs.Sheet.{sheet_of}
use Rattle.lookup.specs.LookUp.{tank_lines, look_up}
use Rattle.questions.specs.Text.{text}
use Rattle.questions.specs.Calls.{shortfall_of, bounds_of}
use Rattle.plan_lines.specs.Sizes.{plan_bytes, placing_words}
use Rattle.plan_lines.specs.Lines.{Line, line}
use Rattle.planning.specs.Problem.{alone, counts_of, listing_of, words_for}
use Rattle.planning.specs.Planning.{short_plan, short_placing, listing_after, placing_after}
use Rattle.planning.specs.ReadListing.{written, lines_of, head_line, stretch_part, feed_part, bill_on}
use Rattle.program.specs.Program.{output, explanation, seed_output}
use Rattle.comparison.specs.Comparison.{compared_of}
use Rattle.halls.specs.declared.HallsPlanned.{HallsPlanned}
use Rattle.halls.specs.Halls.{Hall, lent, outcome_of, halls_answer}
use Rattle.shares.specs.Shares.{share_problem, share_refusal, share_answer}
use Rattle.demands.specs.Halls.{hall_in, answer_in, busy_in}
use Rattle.demands.specs.Meanings.{listings, placings, comparisons, causes, practices, halls, shares}

-- Questions and answers -------------------------------------------------------------

-- a sheet, as its lines of text
abbrev Sheet : Type 0
Sheet = List String

pub data Question : Type 0 where
  -- the program's whole output
  output_for : Sheet → Question
  -- the count of each slot
  counts_for : Sheet → Question
  energy_for : Sheet → Question
  starts_for : Sheet → Question
  stretches_for : Sheet → Question
  feedings_for : Sheet → Question
  -- the words of the placing buffer
  placing_for : Sheet → Question
  -- the bill
  bill_for : Sheet → Question
  -- the shortfall of the marked slots
  shortfall_for : Sheet → (marks : List ℕ) → Question
  -- number, line and order of two sheets compared
  order_for : (first second : Sheet) → Question
  -- the bounds question
  bounds_for : Sheet → (lows highs : List ℕ) → Question
  -- what the program `why` writes
  causes_for : Sheet → Question
  -- what the program of practice sheets writes for an input, given as lines too
  practice_for : (input : List String) → Question
  -- all lines of a tank
  lines_for : Sheet → (tank : ℕ) → Question
  -- number and line of the call for these halls, then of each hall
  halls_for : (limit : ℕ) → List Sheet → Question
  -- the busy blowers that the listing of hall i shows in each of so many slots, i from 0
  hall_counts_for : (limit : ℕ) → List Sheet → (i slots : ℕ) → Question
  -- the text in the plan buffer of hall i
  hall_text_for : (limit : ℕ) → List Sheet → (i : ℕ) → Question
  -- number, line, length and share of the call that cuts rations, lent so many bytes and words
  share_for : Sheet → (plan_buffer placing_buffer : ℕ) → Question
  -- the text in its plan buffer, and the words of its placing buffer, where both are long enough
  share_text_for : Sheet → Question
  share_placing_for : Sheet → Question

pub data Answer : Type 0 where
  bytes : List ℕ → Answer
  numbers : List ℕ → Answer
  number : ℕ → Answer
  lines : List Line → Answer
  -- number, line, and the shortfall or yes
  signed : ℕ → ℕ → ℤ → Answer
  is_yes : ℕ → ℕ → Bool → Answer

-- the lines of the output
abbrev output_lines : Sheet → List Line
output_lines s = lines_of (output (text s))

-- halls with buffers that are long enough, and what is answered for them
abbrev halls_of : List Sheet → List Hall
halls_of sheets = map (λ s. lent (text s) (replicate plan_bytes 0) (replicate placing_words 0)) sheets

abbrev halls_answered : (limit : ℕ) → List Sheet → HallsPlanned
halls_answered limit sheets = halls_answer limit (length sheets) (halls_of sheets)

abbrev hall_listing : (limit : ℕ) → List Sheet → (i : ℕ) → List ℕ
hall_listing limit sheets i = (outcome_of limit (length sheets) (halls_of sheets) i).buffers.listing

-- what the call that cuts rations is refused by, lent buffers that are long enough
abbrev share_refused : Sheet → Refusal
share_refused s = share_refusal (text s) (short_plan (replicate plan_bytes 0) || short_placing (replicate placing_words 0))

-- what the definitions answer
abbrev pub answer : Question → Answer
answer (output_for s) = bytes (output (text s))
answer (counts_for s) = numbers (counts_of (alone (sheet_of (text s))))
answer (energy_for s) = number (head_line (output_lines s)).a
answer (starts_for s) = number (head_line (output_lines s)).b
answer (stretches_for s) = lines (stretch_part (output_lines s))
answer (feedings_for s) = lines (feed_part (output_lines s))
answer (placing_for s) = numbers (words_for (alone (sheet_of (text s))))
answer (bill_for s) = lines (bill_on (output_lines s) ∷ [])
answer (shortfall_for s marks) = let r = shortfall_of (text s) marks in signed r.number r.line r.shortfall
answer (bounds_for s lows highs) = let r = bounds_of (text s) lows highs in is_yes r.number r.line r.yes
answer (order_for s t) = let r = compared_of (text s) (text t) in numbers (r.number ∷ r.line ∷ r.order ∷ [])
answer (causes_for s) = bytes (explanation (text s))
answer (practice_for input) = bytes (seed_output (text input))
answer (lines_for s tank) = bytes (look_up (text s) tank)
answer (halls_for limit sheets) =
    let r = halls_answered limit sheets in
    numbers (r.number ∷ r.line ∷ flat_map (λ i. (answer_in r i).number ∷ (answer_in r i).line ∷ []) (range 0 (length sheets)))
answer (hall_counts_for limit sheets i slots) =
    numbers (map (busy_in (hall_in (halls_of sheets) i) (answer_in (halls_answered limit sheets) i) (hall_listing limit sheets i)) (range 0 slots))
answer (hall_text_for limit sheets i) = bytes (written (answer_in (halls_answered limit sheets) i) (hall_listing limit sheets i))
answer (share_for s plan_buffer placing_buffer) =
    let r = share_refusal (text s) (short_plan (replicate plan_buffer 0) || short_placing (replicate placing_buffer 0)) in
    let a = share_answer r (sheet_of (text s)) in
    numbers (a.number ∷ a.line ∷ a.length ∷ a.share ∷ [])
answer (share_text_for s) =
    let r = share_refused s in
    let a = share_answer r (sheet_of (text s)) in
    bytes (take a.length (listing_after r (listing_of (share_problem (sheet_of (text s)))) (replicate plan_bytes 0)))
answer (share_placing_for s) = numbers (placing_after (share_refused s) (words_for (share_problem (sheet_of (text s)))) (replicate placing_words 0))

-- A row: the question, and the answer that the papers state or that follows from them.
pub record Day : Type 0 where
  pub asked : Question
  pub stated : Answer

abbrev day : Question → Answer → Day
day q a = record { asked = q; stated = a }

-- the statement about a table: the definitions answer each question as stated
abbrev pub AsStated : List Day → Type 0
AsStated days = map (λ d. answer d.asked) days ≡ map (λ d. d.stated) days

-- Sheets ----------------------------------------------------------------------------

-- the listing's sheet
abbrev listed : Sheet
listed =
    "     4     2     2     3"
    ∷ "     1     1     2     2"
    ∷ "     2     1     4     2"
    ∷ "     3     2     3     1" ∷ []

-- the day that is held
abbrev held : Sheet
held = "     3     1     1     2" ∷ "     1     1     2     2" ∷ "     2     2     3     2" ∷ []

-- the day on which nearest-deadline feeding fails
abbrev deadlines : Sheet
deadlines =
    "     3     2     1     3"
    ∷ "     1     1     2     1"
    ∷ "     2     1     2     1"
    ∷ "     3     1     3     3" ∷ []

-- a day without rations, and a wake cost one above its slots, or equal to them
abbrev idle_long : Sheet
idle_long = "     3     1     4     0" ∷ []

abbrev idle_equal : Sheet
idle_equal = "     3     1     3     0" ∷ []

-- the day of one slot with a wake cost of 200
abbrev one_slot : Sheet
one_slot = "     1     1   200     1" ∷ "     1     1     1     1" ∷ []

-- the day with one feeding, in slot 3
abbrev late : Sheet
late = "     3     1     1     1" ∷ "     1     1     3     1" ∷ []

-- busy at both ends of the day, with a wake cost above the stretch between them, or equal to it
abbrev ends_on : Sheet
ends_on = "     3     1     2     2" ∷ "     1     1     1     1" ∷ "     2     3     3     1" ∷ []

abbrev ends_off : Sheet
ends_off = "     3     1     1     2" ∷ "     1     1     1     1" ∷ "     2     3     3     1" ∷ []

-- a tank with two meals, the second window beginning in the slot after the first, or in its last slot
abbrev meals : Sheet
meals = "     4     1     1     3" ∷ "     5     1     2     1" ∷ "     5     3     4     1" ∷ "     9     1     4     1" ∷ []

abbrev meals_meet : Sheet
meals_meet = "     4     1     1     3" ∷ "     5     1     2     1" ∷ "     5     2     4     1" ∷ "     9     1     4     1" ∷ []

-- The starred days ------------------------------------------------------------------

-- where only lows are named, highs are m
abbrev pub starred_days : List Day
starred_days =
    day (output_for listed)
    (bytes
    (text
    ("PLAN"
    ∷ "     9     2     4     5"
    ∷ "     1     1     4     2"
    ∷ "     2     1     2     0"
    ∷ "     2     3     3     2"
    ∷ "     2     4     4     0"
    ∷ "     1     1     1     1"
    ∷ "     2     1     1     2"
    ∷ "     3     1     2     1"
    ∷ "     3     2     3     1"
    ∷ "     4     1     2     2"
    ∷ "     0    16     0     0" ∷ [])))
    ∷ day (counts_for listed) (numbers (1 ∷ 1 ∷ 2 ∷ 1 ∷ []))
    ∷ day (energy_for listed) (number 9)
    ∷ day (bill_for listed) (lines (line 0 16 0 0 ∷ []))
    ∷ day (output_for held) (bytes (text ("HELD" ∷ "    12     1     2     1" ∷ "     2     0     0     0" ∷ [])))
    ∷ day (shortfall_for held (1 ∷ 0 ∷ 0 ∷ [])) (signed 0 0 (pos 0))
    ∷ day (shortfall_for held (1 ∷ 1 ∷ 1 ∷ [])) (signed 0 0 (pos 1))
    ∷ day (shortfall_for listed (0 ∷ 0 ∷ 0 ∷ 1 ∷ [])) (signed 0 0 (negsuc 1))
    ∷ day (feedings_for deadlines) (lines (line 1 1 1 1 ∷ line 1 2 3 1 ∷ line 2 1 2 1 ∷ line 2 2 3 2 ∷ line 3 1 3 3 ∷ []))
    ∷ day (energy_for deadlines) (number 7)
    ∷ day (stretches_for idle_long) (lines (line 1 1 3 0 ∷ []))
    ∷ day (energy_for idle_long) (number 0)
    ∷ day (starts_for idle_long) (number 0)
    ∷ day (stretches_for idle_equal) (lines (line 1 1 3 0 ∷ []))
    ∷ day (energy_for idle_equal) (number 0)
    ∷ day (energy_for one_slot) (number 201)
    ∷ day (stretches_for late) (lines (line 1 1 2 0 ∷ line 1 3 3 2 ∷ []))
    ∷ day (energy_for late) (number 2)
    ∷ day (bounds_for late (1 ∷ 1 ∷ 0 ∷ []) (1 ∷ 1 ∷ 1 ∷ [])) (is_yes 0 0 false)
    ∷ day (bounds_for late (0 ∷ 1 ∷ 0 ∷ []) (0 ∷ 0 ∷ 1 ∷ [])) (is_yes 0 0 false)
    ∷ day (energy_for ends_on) (number 5)
    ∷ day (energy_for ends_off) (number 4)
    ∷ []

-- every starred day is as document 01 says, and requests 101 to 103 and 110 where they change that
pub starred_days_as_stated : AsStated starred_days
unfolding listings
starred_days_as_stated = refl

-- Days that are not starred -----------------------------------------------------------

-- the refused heads, and two days that settle orders which the starred days leave open: blowers from m down and not
-- from 1 up, and feedings slot by slot and not ration by ration
abbrev pub other_days : List Day
other_days =
    day (output_for ("    97     1     0     0" ∷ [])) (bytes (text ("HELD" ∷ "     3     1     0     0" ∷ [])))
    ∷ day (output_for ("    96     9     0     0" ∷ [])) (bytes (text ("HELD" ∷ "     4     1     0     0" ∷ [])))
    ∷ day (output_for ("    96     8  2001     0" ∷ [])) (bytes (text ("HELD" ∷ "     5     1     0     0" ∷ [])))
    ∷ day (counts_for ("     2     2     1     2" ∷ "     1     1     2     1" ∷ "     2     1     2     1" ∷ [])) (numbers (1 ∷ 1 ∷ []))
    ∷ day (feedings_for ("     3     1     1     3" ∷ "     1     2     3     1" ∷ "     2     1     3     1" ∷ "     3     1     2     1" ∷ []))
    (lines (line 1 1 2 1 ∷ line 2 1 3 1 ∷ line 3 1 1 1 ∷ []))
    -- request 103: a day without an on slot, and one slot with a wake cost of 200
    ∷ day (bill_for idle_long) (lines (line 0 0 0 0 ∷ []))
    ∷ day (bill_for one_slot) (lines (line 3 62 0 0 ∷ []))
    -- request 102: both meals are fed, their parts counted within each; a meal that begins in the last slot of the one
    -- before; the order 7, 8, 9, 13 on a line; the lines of a tank
    ∷ day (feedings_for meals) (lines (line 2 1 5 1 ∷ line 3 1 5 1 ∷ line 4 1 9 1 ∷ []))
    ∷ day (output_for meals_meet) (bytes (text ("HELD" ∷ "    13     3     0     0" ∷ [])))
    ∷ day (output_for ("     4     1     1     2" ∷ "     5     1     2     1" ∷ "     5     2     2     2" ∷ [])) (bytes (text ("HELD" ∷ "     9     3     0     0" ∷ [])))
    ∷ day (output_for ("     4     1     1     2" ∷ "     5     1     2     1" ∷ "     5     2     1     2" ∷ [])) (bytes (text ("HELD" ∷ "     8     3     0     0" ∷ [])))
    ∷ day (output_for ("     4     1     1     2" ∷ "     5     1     2     1" ∷ "     4     3     3     1" ∷ [])) (bytes (text ("HELD" ∷ "     7     3     0     0" ∷ [])))
    ∷ day (lines_for meals 5) (bytes (text ("     5     1     2     1" ∷ "     5     3     4     1" ∷ [])))
    ∷ day (lines_for meals 9) (bytes (text ("     9     1     4     1" ∷ [])))
    ∷ day (lines_for meals 4) (bytes [])
    ∷ day (lines_for meals_meet 5) (bytes [])
    ∷ []

pub other_days_as_stated : AsStated other_days
unfolding listings tank_lines look_up
other_days_as_stated = refl

-- The placing's words (request 106) ------------------------------------------------------

-- The first sheet feeds ration 1 in the slots 1 and 2, the rations 2 and 3 in slot 3, and ration 2 in slot 4. Two meals
-- of one tank have a bit each. A day without rations and one that is held have no bit.
abbrev pub placing_days : List Day
placing_days =
    day (placing_for listed) (numbers (1 ∷ 1 ∷ 6 ∷ 2 ∷ replicate 92 0))
    ∷ day (placing_for deadlines) (numbers (5 ∷ 6 ∷ 4 ∷ replicate 93 0))
    ∷ day (placing_for meals) (numbers (0 ∷ 1 ∷ 2 ∷ 4 ∷ replicate 92 0))
    ∷ day (placing_for idle_long) (numbers (replicate 96 0))
    ∷ day (placing_for held) (numbers (replicate 96 0))
    ∷ []

pub placing_days_as_stated : AsStated placing_days
unfolding placings
placing_days_as_stated = refl

-- Causes (request 105) ------------------------------------------------------------------

-- The first sheet: four feedings are forced into the slots 1 to 3, so that blower 2 can't be idle to slot 3; slot 4 is
-- in one window alone, so that it can't be busy there; blower 1 is busy from slot 1. A slot in which two rations must
-- be fed: a low of 2 is above the high 0 of an idle blower 1. A slot in one window alone, and yet another slot with it:
-- if the ration of slots 2 and 3 is fed in slot 3, two feedings in slot 2 can't be. A day without rations; one that is
-- held.
abbrev pub cause_days : List Day
cause_days =
    day (causes_for listed)
    (bytes
    (text
    ("     2     2     1     3"
    ∷ "     1     0     0     0"
    ∷ "     2     0     0     0"
    ∷ "     3     0     0     0"
    ∷ "     2     3     2     1"
    ∷ "     4     0     0     0"
    ∷ "     1     0     1     1"
    ∷ "     1     0     0     0" ∷ [])))
    ∷ day (causes_for ("     1     2     1     2" ∷ "     1     1     1     1" ∷ "     2     1     1     1" ∷ []))
    (bytes (text ("     2     0     1     1" ∷ "     1     0     0     0" ∷ "     1     0     3     1" ∷ "     1     0     0     0" ∷ [])))
    ∷ day
    (causes_for
    ("     3     2     0     4" ∷ "     1     1     1     1" ∷ "     2     1     1     1" ∷ "     3     2     3     1" ∷ "     4     2     2     1" ∷ []))
    (bytes
    (text
    ("     2     0     1     1"
    ∷ "     1     0     0     0"
    ∷ "     2     2     2     2"
    ∷ "     2     0     0     0"
    ∷ "     3     0     0     0"
    ∷ "     1     0     3     1"
    ∷ "     1     0     0     0"
    ∷ "     1     2     2     2"
    ∷ "     2     0     0     0"
    ∷ "     3     0     0     0" ∷ [])))
    ∷ day (causes_for idle_long) (bytes [])
    ∷ day (causes_for held) (bytes (text ("HELD" ∷ "    12     1     2     1" ∷ "     2     0     0     0" ∷ [])))
    ∷ []

pub cause_days_as_stated : AsStated cause_days
unfolding causes
cause_days_as_stated = refl

-- Practice sheets (request 107) -----------------------------------------------------------

-- refusal 2, line 1
abbrev no_seed : Answer
no_seed = bytes (text ("HELD" ∷ "     2     1     0     0" ∷ []))

-- Seed 21 by its draws: 16,004, 12,015 and 13,002 for the head line, 29,177, 24,895 and 21,216 for tank 1, 25,919,
-- 57,622 and 12,504 for tank 2. Seed 9: 15,699, 6,219 and 64,350, which 65 divides, so that there is no ration. Seed
-- 99,962: 64,001, 13,653 and 41,146, then 58,840, 44,835 and 19,366 for tank 1. Then inputs that are no seed: a number
-- above 99,999, a leading zero, a column less, as five columns had it, and one more, a blank after the digits, a second
-- line, nothing at all.
abbrev pub practice_days : List Day
practice_days =
    day (practice_for ("    21" ∷ []))
    (bytes (text ("    96     5   156     2" ∷ "     1    90    93     1" ∷ "     2    96    96     1" ∷ [])))
    ∷ day (practice_for ("     9" ∷ [])) (bytes (text ("    96     4   189     0" ∷ [])))
    ∷ day (practice_for (" 99962" ∷ [])) (bytes (text ("    96     2   186     1" ∷ "     1    89    92     3" ∷ [])))
    ∷ day (practice_for ("100000" ∷ [])) no_seed
    ∷ day (practice_for ("999999" ∷ [])) no_seed
    ∷ day (practice_for ("000021" ∷ [])) no_seed
    ∷ day (practice_for ("   21" ∷ [])) no_seed
    ∷ day (practice_for ("     21" ∷ [])) no_seed
    ∷ day (practice_for ("   21 " ∷ [])) no_seed
    ∷ day (practice_for ("    21" ∷ "    21" ∷ [])) no_seed
    ∷ day (practice_for []) no_seed
    ∷ []

pub practice_days_as_stated : AsStated practice_days
unfolding practices
practice_days_as_stated = refl

-- Halls (request 108) ----------------------------------------------------------------------

-- one ration of two feedings in three slots, for two blowers; the day of one slot; a feeding in the second slot alone;
-- two feedings in one slot, for one blower
abbrev two_of_three : Sheet
two_of_three = "     3     2     1     1" ∷ "     1     1     3     2" ∷ []

abbrev first_slot : Sheet
first_slot = "     1     1     1     1" ∷ "     1     1     1     1" ∷ []

abbrev second_slot : Sheet
second_slot = "     2     1     1     1" ∷ "     7     2     2     1" ∷ []

abbrev two_in_one : Sheet
two_in_one = "     1     1     1     2" ∷ "     1     1     1     1" ∷ "     2     1     1     1" ∷ []

-- Blower 2 of the first sheet is idle all day, and blower 1 as long as two slots are left: it is busy in the slots 2
-- and 3. Under limit 1 the same sheet in a second hall has the room 1, 0, 0: at least one feeding is forced into the
-- slots 2 and 3, in which it has none. It is held and uses nothing, so that a third hall has slot 1. Under limit 2 it
-- is planned as the first one is. A refused sheet uses nothing; a hall uses nothing past its only slot, and of four
-- halls under limit 2 the third finds its only slot taken. Under the greatest limit a hall still has its own blower
-- alone, too few for two feedings in a slot. Then limits and numbers of halls out of range.
abbrev pub hall_days : List Day
hall_days =
    day (halls_for 1 (two_of_three ∷ two_of_three ∷ first_slot ∷ [])) (numbers (0 ∷ 0 ∷ 0 ∷ 0 ∷ 12 ∷ 0 ∷ 0 ∷ 0 ∷ []))
    ∷ day (hall_counts_for 1 (two_of_three ∷ two_of_three ∷ first_slot ∷ []) 0 3) (numbers (0 ∷ 1 ∷ 1 ∷ []))
    ∷ day (hall_text_for 1 (two_of_three ∷ two_of_three ∷ first_slot ∷ []) 1)
    (bytes (text ("HELD" ∷ "    12     2     1     0" ∷ "     2     0     0     0" ∷ "     3     0     0     0" ∷ [])))
    ∷ day (hall_counts_for 1 (two_of_three ∷ two_of_three ∷ first_slot ∷ []) 2 3) (numbers (1 ∷ 0 ∷ 0 ∷ []))
    ∷ day (hall_counts_for 2 (two_of_three ∷ two_of_three ∷ []) 1 3) (numbers (0 ∷ 1 ∷ 1 ∷ []))
    ∷ day (halls_for 1 (("    97     1     0     0" ∷ []) ∷ two_of_three ∷ [])) (numbers (0 ∷ 0 ∷ 3 ∷ 1 ∷ 0 ∷ 0 ∷ []))
    ∷ day (hall_counts_for 1 (("    97     1     0     0" ∷ []) ∷ two_of_three ∷ []) 1 3) (numbers (0 ∷ 1 ∷ 1 ∷ []))
    ∷ day (halls_for 1 (first_slot ∷ second_slot ∷ first_slot ∷ [])) (numbers (0 ∷ 0 ∷ 0 ∷ 0 ∷ 0 ∷ 0 ∷ 12 ∷ 0 ∷ []))
    ∷ day (halls_for 2 (first_slot ∷ first_slot ∷ first_slot ∷ second_slot ∷ [])) (numbers (0 ∷ 0 ∷ 0 ∷ 0 ∷ 0 ∷ 0 ∷ 12 ∷ 0 ∷ 0 ∷ 0 ∷ []))
    ∷ day (halls_for 32 (two_in_one ∷ [])) (numbers (0 ∷ 0 ∷ 12 ∷ 0 ∷ []))
    ∷ day (halls_for 33 (first_slot ∷ [])) (numbers (14 ∷ 0 ∷ 0 ∷ 0 ∷ []))
    ∷ day (halls_for 0 (first_slot ∷ [])) (numbers (14 ∷ 0 ∷ 0 ∷ 0 ∷ []))
    ∷ day (halls_for 32 (first_slot ∷ first_slot ∷ [])) (numbers (0 ∷ 0 ∷ 0 ∷ 0 ∷ 0 ∷ 0 ∷ []))
    ∷ day (halls_for 32 []) (numbers (14 ∷ 0 ∷ []))
    ∷ day (halls_for 1 (first_slot ∷ first_slot ∷ first_slot ∷ first_slot ∷ first_slot ∷ [])) (numbers (14 ∷ 0 ∷ replicate 10 0))
    ∷ []

pub hall_days_as_stated : AsStated hall_days
unfolding halls
hall_days_as_stated = refl

-- Comparisons: request 109 ------------------------------------------------------------

-- one tank in the only slot, and another one; a wake cost; two tanks
abbrev tank_one : Sheet
tank_one = "     1     2     0     1" ∷ "     1     1     1     1" ∷ []

abbrev tank_two : Sheet
tank_two = "     1     2     0     1" ∷ "     2     1     1     1" ∷ []

abbrev tank_one_waking : Sheet
tank_one_waking = "     1     1     5     1" ∷ "     1     1     1     1" ∷ []

abbrev both_tanks : Sheet
both_tanks = "     1     2     0     2" ∷ "     1     1     1     1" ∷ "     2     1     1     1" ∷ []

abbrev one_and_three : Sheet
one_and_three = "     1     2     0     2" ∷ "     1     1     1     1" ∷ "     3     1     1     1" ∷ []

abbrev tank_nine : Sheet
tank_nine = "     1     1     0     1" ∷ "     9     1     1     1" ∷ []

abbrev tank_ten : Sheet
tank_ten = "     1     1     0     1" ∷ "    10     1     1     1" ∷ []

-- two slots: tank 1 in the first or in the last; tank 2 first and tank 1 last, and the other way; tank 3 first
abbrev one_first : Sheet
one_first = "     2     1     0     1" ∷ "     1     1     1     1" ∷ []

abbrev one_last : Sheet
one_last = "     2     1     0     1" ∷ "     1     2     2     1" ∷ []

abbrev two_then_one : Sheet
two_then_one = "     2     1     0     2" ∷ "     1     2     2     1" ∷ "     2     1     1     1" ∷ []

abbrev one_then_two : Sheet
one_then_two = "     2     1     0     2" ∷ "     1     1     1     1" ∷ "     2     2     2     1" ∷ []

abbrev three_first : Sheet
three_first = "     2     1     0     1" ∷ "     3     1     1     1" ∷ []

-- The first two sheets have the same counts, and other tanks: the base had them as the same day. Another wake cost and
-- another number of blowers leave the plan the same. A list that ends first is smaller, the empty list too. Smaller D
-- comes first, whatever is fed. Where two slots differ the first decides, and tanks are compared, not their places on
-- the sheet. A refused sheet has the answer no, and the first sheet's own refusal, 12 too, comes before the second's.
abbrev pub comparison_days : List Day
comparison_days =
    day (counts_for tank_one) (numbers (1 ∷ []))
    ∷ day (counts_for tank_two) (numbers (1 ∷ []))
    ∷ day (order_for tank_one tank_two) (numbers (0 ∷ 0 ∷ 2 ∷ []))
    ∷ day (order_for tank_two tank_one) (numbers (0 ∷ 0 ∷ 3 ∷ []))
    ∷ day (order_for tank_one tank_one_waking) (numbers (0 ∷ 0 ∷ 1 ∷ []))
    ∷ day (order_for tank_one both_tanks) (numbers (0 ∷ 0 ∷ 2 ∷ []))
    ∷ day (order_for both_tanks tank_two) (numbers (0 ∷ 0 ∷ 2 ∷ []))
    ∷ day (order_for one_last one_first) (numbers (0 ∷ 0 ∷ 2 ∷ []))
    ∷ day (order_for tank_two one_first) (numbers (0 ∷ 0 ∷ 2 ∷ []))
    ∷ day (order_for ("     2     1     0     0" ∷ []) ("     1     1     0     0" ∷ [])) (numbers (0 ∷ 0 ∷ 3 ∷ []))
    ∷ day (order_for two_then_one one_then_two) (numbers (0 ∷ 0 ∷ 3 ∷ []))
    ∷ day (order_for three_first two_then_one) (numbers (0 ∷ 0 ∷ 3 ∷ []))
    ∷ day (order_for one_then_two one_then_two) (numbers (0 ∷ 0 ∷ 1 ∷ []))
    ∷ day (order_for one_first one_then_two) (numbers (0 ∷ 0 ∷ 2 ∷ []))
    ∷ day (order_for both_tanks one_and_three) (numbers (0 ∷ 0 ∷ 2 ∷ []))
    ∷ day (order_for tank_nine tank_ten) (numbers (0 ∷ 0 ∷ 2 ∷ []))
    ∷ day (order_for held []) (numbers (12 ∷ 0 ∷ 0 ∷ []))
    ∷ day (order_for [] held) (numbers (1 ∷ 0 ∷ 0 ∷ []))
    ∷ day (order_for tank_one held) (numbers (12 ∷ 0 ∷ 0 ∷ []))
    ∷ day (order_for tank_one ("    97     1     0     0" ∷ [])) (numbers (3 ∷ 1 ∷ 0 ∷ []))
    ∷ day (order_for held held) (numbers (12 ∷ 0 ∷ 0 ∷ []))
    ∷ []

pub comparison_days_as_stated : AsStated comparison_days
unfolding comparisons
comparison_days_as_stated = refl

-- Six columns (request 110) ----------------------------------------------------------------

-- the greatest tank and the greatest wake cost
abbrev greatest : Sheet
greatest = "     1     1  2000     1" ∷ "250000     1     1     1" ∷ []

-- the head of a day without rations in lines of five columns, as they were before
abbrev five_columns : String
five_columns = "    1    1    0    0"

-- The greatest tank is fed, and looked up, with a digit in every column; the start of its slot costs 2,000 units at 18
-- tenths of a cent, and the slot one more. One tank more is 7, a wake cost one greater is 5. A number that fills the
-- field is read, and is no number of slots. A line of five columns is 1, and so is one of seven; 25 lines of five
-- columns have the length of 21 lines of six and are 2. A leading zero in the first column, and a blank in the last,
-- are 2.
abbrev pub column_days : List Day
column_days =
    day (output_for greatest)
    (bytes
    (text
    ("PLAN"
    ∷ "  2001     1     1     1"
    ∷ "     1     1     1     2"
    ∷ "     1     1250000     1"
    ∷ "    36     2     0     0" ∷ [])))
    ∷ day (lines_for greatest 250000) (bytes (text ("250000     1     1     1" ∷ [])))
    ∷ day (output_for ("     1     1  2000     1" ∷ "250001     1     1     1" ∷ [])) (bytes (text ("HELD" ∷ "     7     2     0     0" ∷ [])))
    ∷ day (output_for ("     1     1  2001     1" ∷ "250000     1     1     1" ∷ [])) (bytes (text ("HELD" ∷ "     5     1     0     0" ∷ [])))
    ∷ day (output_for ("999999     1     0     0" ∷ [])) (bytes (text ("HELD" ∷ "     3     1     0     0" ∷ [])))
    ∷ day (output_for (five_columns ∷ [])) (bytes (text ("HELD" ∷ "     1     0     0     0" ∷ [])))
    ∷ day (output_for ("      1      1      0      0" ∷ [])) (bytes (text ("HELD" ∷ "     1     0     0     0" ∷ [])))
    ∷ day (output_for (replicate 25 five_columns)) (bytes (text ("HELD" ∷ "     2     1     0     0" ∷ [])))
    ∷ day (output_for ("000001     1     0     0" ∷ [])) (bytes (text ("HELD" ∷ "     2     1     0     0" ∷ [])))
    ∷ day (output_for ("     1     1     0    0 " ∷ [])) (bytes (text ("HELD" ∷ "     2     1     0     0" ∷ [])))
    ∷ []

pub column_days_as_stated : AsStated column_days
unfolding listings tank_lines look_up
column_days_as_stated = refl

-- Short rations (request 111) --------------------------------------------------------------

-- two tanks with all three slots each, and three with both slots; a volume of 1 before one of 2, in two slots
abbrev three_each : Sheet
three_each = "     3     1     1     2" ∷ "     1     1     3     3" ∷ "     2     1     3     3" ∷ []

abbrev two_each : Sheet
two_each = "     2     1     1     3" ∷ "     1     1     2     2" ∷ "     2     1     2     2" ∷ "     3     1     2     2" ∷ []

abbrev one_before_two : Sheet
one_before_two = "     2     1     1     2" ∷ "     7     1     1     1" ∷ "     8     1     2     2" ∷ []

-- The first sheet can be planned as it is: share 100 and its own listing. The held day: 99 hundredths of 2 are 1,
-- rounded down, and two feedings fit; rounded to the nearest they would be 2, as on the sheet. 66 hundredths of 3 are
-- 1, and 67 are 2: four feedings are too many for three slots. Half of 2 is 1, and three are too many for two slots:
-- at 49 nothing is fed. At 99 a volume of 1 is cut to 0, and the ration keeps its place on the sheet: that of tank 8 is
-- still the second, with bit 1, and one feeding of it is left, in slot 2. The listing has no line for the share. A
-- refused sheet has share 0, and so has a short buffer, either one; the sheet is looked at first.
abbrev pub share_days : List Day
share_days =
    day (share_for listed 38455 96) (numbers (0 ∷ 0 ∷ 280 ∷ 100 ∷ []))
    ∷ day (share_placing_for listed) (numbers (1 ∷ 1 ∷ 6 ∷ 2 ∷ replicate 92 0))
    ∷ day (share_for held 38455 96) (numbers (0 ∷ 0 ∷ 155 ∷ 99 ∷ []))
    ∷ day (share_text_for held)
    (bytes
    (text
    ("PLAN"
    ∷ "     3     1     2     2"
    ∷ "     1     1     1     0"
    ∷ "     1     2     3     2"
    ∷ "     2     1     1     1"
    ∷ "     3     1     2     1"
    ∷ "     0     5     0     0" ∷ [])))
    ∷ day (share_for three_each 38455 96) (numbers (0 ∷ 0 ∷ 155 ∷ 66 ∷ []))
    ∷ day (share_for two_each 38455 96) (numbers (0 ∷ 0 ∷ 80 ∷ 49 ∷ []))
    ∷ day (share_for two_in_one 38455 96) (numbers (0 ∷ 0 ∷ 80 ∷ 99 ∷ []))
    ∷ day (share_text_for two_in_one) (bytes (text ("PLAN" ∷ "     0     0     1     0" ∷ "     1     1     1     0" ∷ "     0     0     0     0" ∷ [])))
    ∷ day (share_placing_for two_in_one) (numbers (replicate 96 0))
    ∷ day (share_for one_before_two 38455 96) (numbers (0 ∷ 0 ∷ 130 ∷ 99 ∷ []))
    ∷ day (share_placing_for one_before_two) (numbers (0 ∷ 2 ∷ replicate 94 0))
    ∷ day (share_for ("    97     1     0     0" ∷ []) 38455 96) (numbers (3 ∷ 1 ∷ 0 ∷ 0 ∷ []))
    ∷ day (share_for [] 38454 95) (numbers (1 ∷ 0 ∷ 0 ∷ 0 ∷ []))
    ∷ day (share_for held 38454 96) (numbers (10 ∷ 0 ∷ 0 ∷ 0 ∷ []))
    ∷ day (share_for listed 38455 95) (numbers (10 ∷ 0 ∷ 0 ∷ 0 ∷ []))
    ∷ []

pub share_days_as_stated : AsStated share_days
unfolding shares
share_days_as_stated = refl
