-- What writing the entries requires and ensures. Definitions only. Assumes nothing.
use Rattle.std.specs.Prelude.{◌≡◌, List, [], ◌∷◌, ◌++◌, ℕ, ◌≤◌, length}
use Rattle.common.specs.Buffers.{over, put_at}
use Rattle.checks.specs.Limits.{max_slots}
use Rattle.placing.specs.CauseCalls.{number_of, obstacle_of}
use Rattle.method.specs.Endings.{EndedStretch}
use Rattle.plan_lines.specs.Sizes.{causes_bytes}
use Rattle.plan_lines.specs.Lines.{Line, line}
use Rattle.plan_lines.specs.Text.{write_lines}
use Rattle.plan_lines.specs.Putting.{Room}
use Rattle.cause_lines.specs.declared.CausedStretch.{CausedStretch}
use Rattle.cause_lines.specs.declared.Extent.{Extent}
use Rattle.cause_lines.specs.declared.SlotWords.{SlotWords}
use Rattle.cause_lines.specs.Entries.{entry_lines, causes_text, is_cut}
use Rattle.cause_lines.specs.SlotCalls.{bit_lines}

-- the entry of a stretch as code has it, on a day of so many slots
abbrev pub text_of : (slots : ℕ) → CausedStretch → List ℕ
text_of slots s = write_lines (entry_lines s.blower s.last (obstacle_of slots s.cause))

-- the lines of an entry as `put_entry` has it: the first, and one for each bit of the words
abbrev pub lines_with : CausedStretch → SlotWords → (n : ℕ) → List Line
lines_with s w n = line s.blower s.last (number_of s.cause) n ∷ (bit_lines 0 w.first ++ bit_lines 64 w.second)

pub record CanPutEntry (out : List ℕ) (at : ℕ) (s : CausedStretch) (w : SlotWords) (n : ℕ) : Type 0 where
  pub last : s.last ≤ max_slots
  pub few : n ≤ max_slots
  pub room : Room (lines_with s w n) at out

pub record EntryPut (at : ℕ) (s : CausedStretch) (w : SlotWords) (n : ℕ) (old new : List ℕ) : Type 0 where
  pub bytes : new ≡ put_at at (write_lines (lines_with s w n)) old

-- the listing of these stretches is at the front of the buffer that was `old`, and x says how long it is and whether it
-- was cut
pub record Listing (es : List EndedStretch) (old new : List ℕ) (x : Extent) : Type 0 where
  pub bytes : new ≡ over (causes_text es) old
  pub size : x.length ≡ length (causes_text es)
  pub cut_is : x.cut ≡ is_cut es

-- a stretch as code has it is that of the definitions, on a day of so many slots
pub record SameStretch (slots : ℕ) (s : CausedStretch) (e : EndedStretch) : Type 0 where
  pub blower : s.blower ≡ e.blower
  pub first : s.first ≡ e.stretch.first
  pub last : s.last ≡ e.stretch.last
  pub cause : obstacle_of slots s.cause ≡ e.cause

pub record CanAppend (out : List ℕ) (slots : ℕ) (x : Extent) (s : CausedStretch) : Type 0 where
  pub day : slots ≤ max_slots
  pub last : s.last ≤ max_slots
  pub room : causes_bytes ≤ length out
  pub within : x.length ≤ causes_bytes

-- whatever stretches are listed in the buffer, this one is listed behind them
pub record Appended (r : Extent) (slots : ℕ) (x : Extent) (s : CausedStretch) (out out' : List ℕ) : Type 0 where
  pub within : r.length ≤ causes_bytes
  pub same_length : length out' ≡ length out
  pub more : (es : List EndedStretch) (e : EndedStretch) (old : List ℕ) → SameStretch slots s e → causes_bytes ≤ length old
      → Listing es old out x → Listing (es ++ (e ∷ [])) old out' r
