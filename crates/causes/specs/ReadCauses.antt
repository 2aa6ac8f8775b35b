-- How the causes' listing is read: its entries, from its lines. No more is known here of a listing than its form.
-- Definitions only. Assumes nothing.
use Rattle.std.specs.Prelude.{List, [], ◌∷◌, ℕ, zero, suc, take, drop}
use Rattle.checks.specs.Sheet.{line_count}
use Rattle.method.specs.Endings.{EndedStretch}
use Rattle.plan_lines.specs.Lines.{Line, member_lines}
use Rattle.planning.specs.ReadListing.{lines_in}
use Rattle.causes.specs.declared.CausesAnswer.{CausesAnswer}

-- what the call wrote in its buffer: as many bytes as its answer says
abbrev pub written_causes : CausesAnswer → (buffer : List ℕ) → List ℕ
written_causes answer buffer = take answer.length buffer

-- An entry: blower, last slot, cause, and the lines of its slots.
pub record Entry : Type 0 where
  pub blower : ℕ
  pub last : ℕ
  pub cause : ℕ
  pub slots : List Line

-- the first n entries on some lines: a line, and as many lines of slots behind it as its last field says
unfoldable pub entries_on : (n : ℕ) → List Line → List Entry
entries_on zero ls = []
entries_on (suc n) [] = []
entries_on (suc n) (l ∷ ls) =
    record { blower = l.a; last = l.b; cause = l.c; slots = take l.d ls } ∷ entries_on n (drop l.d ls)

-- the entries of a text: there are no more of them than lines
unfoldable pub entries_in : List ℕ → List Entry
entries_in text = entries_on (line_count text) (lines_in text)

-- the entry of a stretch with its cause
abbrev pub entry_of : EndedStretch → Entry
entry_of e = record { blower = e.blower; last = e.stretch.last; cause = e.cause.number; slots = member_lines 1 e.cause.set }
