-- What "Sheets held" of document 01 says of a call's answer and of the memory that it was lent: one record for each
-- kind of buffer, one field for each sentence. Nothing here says how an answer is found; that the calls give such
-- answers is demand 1, DemandOne.antt. Definitions only. Assumes nothing.
use Rattle.std.specs.Prelude.{◌≡◌, ◌↔◌, Bool, true, false, List, [], ◌∷◌, ℕ, suc, ◌*◌, ◌≤◌, ◌<◌, ℤ, length, take, drop, replicate}
use Rattle.checks.specs.declared.Refusal.{Refusal}
use Rattle.checks.specs.Refusals.{no_placing}
use Rattle.line.specs.Layout.{fields, line_bytes}
use Rattle.checks.specs.Sheet.{Sheet, line_count, line_at, write_sheet, numbers_of}
use Rattle.sheet.specs.declared.Reading.{Reading}
use Rattle.line.specs.Line.{value_at}
use Rattle.schedules.specs.Schedules.{Schedule, Sound}
use Rattle.schedules.specs.Shortfall.{shortfall}
use Rattle.schedules.specs.Demands.{demands_of, full_high}
use Rattle.marks.specs.Marks.{marked}
use Rattle.questions.specs.Calls.{cut_highs}
use Rattle.plan_lines.specs.Sizes.{placing_words, causes_bytes}
use Rattle.plan_lines.specs.PlacingForms.{words_of, grid_bytes, grid_of, SameFeedings}
use Rattle.plan_lines.specs.Text.{refusal_text}
use Rattle.planning.specs.Problem.{Problem, feedings_of, plan_listing, held_listing}
use Rattle.cause_lines.specs.Entries.{entries_text, causes_text, MostThatFit}
use Rattle.causes.specs.CauseCalls.{endings_of}
use Rattle.program.specs.Program.{output_of, explanation_of, made_sheet_of}

-- The number and the line -------------------------------------------------------------------

-- The first of a call's checks that applies is its answer. `applying` has those of its checks that apply, in their
-- order.
pub record FirstOf (applying : List Refusal) (number line : ℕ) : Type 0 where
  pub first : (r : Refusal) (rest : List Refusal) → applying ≡ r ∷ rest → (number ≡ r.number) × (line ≡ r.line)
  -- where none applies both are 0, and the number is 0 nowhere else
  pub accepted : applying ≡ [] → (number ≡ 0) × (line ≡ 0)
  pub no_other : number ≡ 0 → applying ≡ []

-- every number but 0 ..
abbrev pub NotZero : ℕ → Type 0
NotZero number = number ≡ 0 → ⊥

-- .. and every number but 0 and 12
abbrev pub RefusedNotHeld : ℕ → Type 0
RefusedNotHeld number = NotZero number × (number ≡ no_placing → ⊥)

-- The questions, where nothing is refused -------------------------------------------------------

-- the shortfall of the marked slots, with high m in every slot
abbrev pub ShortfallOf : Sheet → (marks : List ℕ) → ℤ → Type 0
ShortfallOf s marks x = x ≡ shortfall (demands_of s) (full_high s) (marked marks)

-- yes exactly where a sound placing exists under these lows and highs, a high above m being read as m
abbrev pub YesFor : Sheet → (lows highs : List ℕ) → Bool → Type 0
YesFor s lows highs answer = (answer ≡ true) ↔ ((p : Schedule) × Sound s.slots (demands_of s) lows (cut_highs s.blowers highs) p)

-- Reading ------------------------------------------------------------------------------------

-- a sheet is accepted, and the values read are these
pub record ValuesRead (s : Sheet) (v : Reading) : Type 0 where
  pub number : v.number ≡ 0
  pub slots : v.slots ≡ s.slots
  pub blowers : v.blowers ≡ s.blowers
  pub wake : v.wake ≡ s.wake
  pub rations : v.rations ≡ length s.jobs
  pub numbers : take (fields * v.rations) v.numbers ≡ numbers_of s.jobs

-- The look-up --------------------------------------------------------------------------------

-- no ration line of a sheet's bytes has the tank; the head line is line 0 here
abbrev pub NoLineOf : (b : List ℕ) (tank : ℕ) → Type 0
NoLineOf b tank = (i : ℕ) → 1 ≤ i → i < line_count b → value_at (line_at b i) 0 ≡ tank → ⊥

-- Lent buffers ------------------------------------------------------------------------------

-- A text, or words, at the front of a lent buffer: it fits, and what comes after it keeps its values.
pub record Front (text old new : List ℕ) : Type 0 where
  pub same_length : length new ≡ length old
  pub text_is : take (length text) new ≡ text
  pub kept : drop (length text) new ≡ drop (length text) old

-- A plan buffer lent to a call that plans problem p and gives this number and this length.
pub record PlanBuffer (p : Problem) (number size : ℕ) (old new : List ℕ) : Type 0 where
  -- on any number beside 0 and 12 the buffer is as it was, and the length is 0
  pub refused : RefusedNotHeld number → (size ≡ 0) × (new ≡ old)
  -- on 0 it has a plan's listing at its front, on 12 that of a held problem, and the length is that of this text
  pub planned : number ≡ 0 → (size ≡ length (plan_listing p)) × Front (plan_listing p) old new
  pub held : number ≡ no_placing → (size ≡ length (held_listing p)) × Front (held_listing p) old new

-- A placing buffer lent to such a call.
pub record PlacingBuffer (p : Problem) (number : ℕ) (old new : List ℕ) : Type 0 where
  pub refused : RefusedNotHeld number → new ≡ old
  -- 96 words, which mark the feedings: slot t in word t − 1, ration i in bit i − 1 ..
  pub planned : number ≡ 0 → (length (words_of (feedings_of p)) ≡ placing_words) × Front (words_of (feedings_of p)) old new
  -- .. and are all 0 where nothing is planned
  pub held : number ≡ no_placing → Front (replicate placing_words 0) old new
  -- the byte grid of the same feedings, 6,144 zeros where nothing is planned, marks the same: each byte is its bit, and
  -- each form can be made of the other
  pub as_grid : number ≡ 0 → SameFeedings (take placing_words new) (grid_of (feedings_of p))
  pub held_as_grid : number ≡ no_placing → SameFeedings (take placing_words new) (replicate grid_bytes 0)

-- A text that lists the causes of problem p's stretches; `cut` says whether it was cut.
pub record CausesListed (p : Problem) (cut : Bool) (text : List ℕ) : Type 0 where
  pub text_is : text ≡ causes_text (endings_of p)
  -- n whole entries, the first ones, as many as 65,536 bytes hold; cut exactly where all would be longer
  pub n : ℕ
  pub most : MostThatFit causes_bytes (endings_of p) n
  pub whole_entries : text ≡ entries_text (take n (endings_of p))
  pub cut_iff : (cut ≡ true) ↔ (causes_bytes < length (entries_text (endings_of p)))

-- A buffer lent to a call that lists these causes and gives this number, length and cut.
pub record CausesBuffer (p : Problem) (number size : ℕ) (cut : Bool) (old new : List ℕ) : Type 0 where
  -- on any number beside 0, 12 too, the buffer is as it was, the length is 0, and nothing was cut
  pub refused : NotZero number → (size ≡ 0) × (cut ≡ false) × (new ≡ old)
  -- on 0 it has the listing at its front, and the length is that of this text
  pub listed : number ≡ 0 → (size ≡ length (causes_text (endings_of p))) × Front (causes_text (endings_of p)) old new
  pub causes : number ≡ 0 → CausesListed p cut (take size new)

-- A buffer lent to a call that writes sheet s.
pub record SheetBuffer (s : Sheet) (number size : ℕ) (old new : List ℕ) : Type 0 where
  pub refused : NotZero number → (size ≡ 0) × (new ≡ old)
  -- a line for the head and one for each ration, and the length is that of this text
  pub written : number ≡ 0 → (size ≡ length (write_sheet s)) × (size ≡ line_bytes * suc (length s.jobs)) × Front (write_sheet s) old new

-- what the planner writes for its input: the first bytes of what `program::answer` gives, as many as its length says
abbrev pub program_text : List ℕ → List ℕ
program_text b = take (output_of b).length (output_of b).bytes

-- what the program `why` writes for its input: the first bytes of what `program::explain` gives
abbrev pub why_text : List ℕ → List ℕ
why_text b = take (explanation_of b).length (explanation_of b).bytes

-- what the practice sheets' program writes for its input: the first bytes of what `program::make_sheet` gives
abbrev pub practice_text : List ℕ → List ℕ
practice_text b = take (made_sheet_of b).length (made_sheet_of b).bytes

-- That text of the planner, where planning gives this number and this line.
pub record ProgramText (p : Problem) (number line : ℕ) (text : List ℕ) : Type 0 where
  -- on any number beside 0 and 12: `HELD`, and a line of number, line, 0, 0
  pub refused : RefusedNotHeld number → text ≡ refusal_text number line
  pub planned : number ≡ 0 → text ≡ plan_listing p
  pub held : number ≡ no_placing → text ≡ held_listing p
