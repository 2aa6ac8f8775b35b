-- What the functions within the crate ensure. Definitions only.
use Rattle.std.specs.Prelude.{cond, List, ℕ, zero, suc, eqb}
use Rattle.line.specs.Line.{value_at}
use Rattle.checks.specs.Sheet.{line_at}
use Rattle.lookup.specs.declared.Part.{Part}

-- the first of n lines from line i on whose first field is not the tank; the line after them where there is none
unfoldable pub line_after : List ℕ → ℕ → ℕ → ℕ → ℕ
line_after b tank i zero = i
line_after b tank i (suc n) = cond (eqb (value_at (line_at b i) 0) tank) (line_after b tank (suc i) n) i

-- the part of no lines
abbrev pub nowhere : Part
nowhere = record { start = 0; length = 0 }
