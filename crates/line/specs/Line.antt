-- A line: four fields, then byte 10. How it is read and how it is written. Definitions only.
use Rattle.std.specs.Prelude.{Bool, ◌||◌, not, List, [], ◌∷◌, ◌++◌, ℕ, zero, suc, ◌*◌, eqb, get_or, take, drop}
use Rattle.line.specs.Layout.{width, fields, newline}
use Rattle.line.specs.Field.{parse, number_of, is_faulty, write_field}

-- Reading --------------------------------------------------------------------

-- field f of a line, from 0
unfoldable pub field_at : List ℕ → ℕ → List ℕ
field_at l f = take width (drop (width * f) l)

-- the number in field f of a line
unfoldable pub value_at : List ℕ → ℕ → ℕ
value_at l f = number_of (parse (field_at l f))

-- one of n fields from f on is not in the stated form, or the closing byte 10 is missing, which counts as one
unfoldable pub faulty_from : List ℕ → ℕ → ℕ → Bool
faulty_from l f zero = not (eqb (get_or l (width * fields) 0) newline)
faulty_from l f (suc n) = is_faulty (parse (field_at l f)) || faulty_from l (suc f) n

unfoldable pub faulty_line : List ℕ → Bool
faulty_line l = faulty_from l 0 fields

-- Writing --------------------------------------------------------------------

-- a line: four fields, then byte 10
unfoldable pub write_line : ℕ → ℕ → ℕ → ℕ → List ℕ
write_line a b c d = write_field a ++ (write_field b ++ (write_field c ++ (write_field d ++ (newline ∷ []))))
