-- The text of a listing. Definitions only. Assumes nothing.
use Rattle.std.specs.Prelude.{List, [], ◌∷◌, ◌++◌, ℕ}
use Rattle.common.specs.Lists.{flat_map}
use Rattle.line.specs.Layout.{newline}
use Rattle.line.specs.Line.{write_line}
use Rattle.schedules.specs.Slots.{Slots}
use Rattle.plan_lines.specs.Lines.{Line, line, Plan, plan_lines, held_lines}

-- lines in the sheet's form
unfoldable pub write_lines : List Line → List ℕ
write_lines = flat_map (λ l. write_line l.a l.b l.c l.d)

-- `PLAN` and byte 10
abbrev pub plan_word : List ℕ
plan_word = 80 ∷ 76 ∷ 65 ∷ 78 ∷ newline ∷ []

-- `HELD` and byte 10
abbrev pub held_word : List ℕ
held_word = 72 ∷ 69 ∷ 76 ∷ 68 ∷ newline ∷ []

unfoldable pub plan_text : Plan → List ℕ
plan_text p = plan_word ++ write_lines (plan_lines p)

-- a sheet held for want of blowers, with the set Q, its forced volume and its capacity
unfoldable pub held_text : Slots → (forced capacity : ℕ) → List ℕ
held_text q forced capacity = held_word ++ write_lines (held_lines q forced capacity)

-- any other refusal: its number, the sheet line that it names, 0, 0
unfoldable pub refusal_text : (number line : ℕ) → List ℕ
refusal_text number l = held_word ++ write_lines (line number l 0 0 ∷ [])
