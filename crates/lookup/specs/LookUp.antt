-- What the look-up by tank answers: all lines of the tank, as one part of the sheet. Definitions only.
use Rattle.std.specs.Prelude.{cond, List, [], ◌++◌, ℕ, zero, suc, ◌+◌, ◌-◌, ◌*◌, eqb, length}
use Rattle.line.specs.Layout.{line_bytes}
use Rattle.line.specs.Line.{value_at}
use Rattle.checks.specs.Sheet.{line_count, line_at}
use Rattle.checks.specs.Checks.{first_refusal, faults}
use Rattle.lookup.specs.declared.Part.{Part}

-- of n lines from line i on, those whose first field is the tank, one after the other
unfoldable pub tank_lines : List ℕ → ℕ → ℕ → ℕ → List ℕ
tank_lines b tank i zero = []
tank_lines b tank i (suc n) = cond (eqb (value_at (line_at b i) 0) tank) (line_at b i) [] ++ tank_lines b tank (suc i) n

-- all lines of the tank; nothing where the sheet is refused or has no such tank
unfoldable pub look_up : List ℕ → ℕ → List ℕ
look_up b tank = cond (eqb (first_refusal (faults b)).number 0) (tank_lines b tank 1 (line_count b - 1)) []

-- the first of n lines from line i on whose first field is the tank; the line after them where there is none
unfoldable pub first_line : List ℕ → ℕ → ℕ → ℕ → ℕ
first_line b tank i zero = i
first_line b tank i (suc n) = cond (eqb (value_at (line_at b i) 0) tank) i (first_line b tank (suc i) n)

-- where these lines are in the sheet: they are one part of it; 0 and 0 where there is none
unfoldable pub place_of : List ℕ → ℕ → Part
place_of b tank =
    cond (eqb (length (look_up b tank)) 0)
    (record { start = 0; length = 0 })
    (record { start = line_bytes * first_line b tank 1 (line_count b - 1); length = length (look_up b tank) })

-- where byte i of a slice is in memory: in the object in which the slice begins, i bytes further on; a place in memory
-- is an object and how many of its bytes come before
unfoldable pub byte_from : ℕ × ℕ → ℕ → ℕ × ℕ
byte_from begin i = (begin.0, begin.1 + i)
