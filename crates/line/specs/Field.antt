-- A field: a whole number in decimal, right-justified, blanks on its left, at least one digit, no leading zero. How it is read and how it is written.
-- Assumes nothing.
use Rattle.std.specs.Prelude.{Bool, true, false, ◌&&◌, cond, List, [], ◌∷◌, ◌++◌, ℕ, zero, suc, ◌+◌, ◌-◌, ◌*◌, ◌/◌, ◌%◌, leb, eqb, Option, Some, None}
use Rattle.line.specs.Layout.{width, blank}

-- Reading --------------------------------------------------------------------

-- a digit's byte, `0` to `9`
unfoldable pub is_digit : ℕ → Bool
is_digit b = leb 48 b && leb b 57

-- the digits after the first, where those before them have the value v
unfoldable pub digits : ℕ → List ℕ → Option ℕ
digits v [] = Some v
digits v (b ∷ bs) = cond (is_digit b) (digits (10 * v + (b - 48)) bs) None

-- zero is one `0`: nothing comes after it
unfoldable pub zero_alone : List ℕ → Option ℕ
zero_alone [] = Some 0
zero_alone (b ∷ bs) = None

-- a whole number in decimal, without a leading zero: its first byte and the others
unfoldable pub decimal : ℕ → List ℕ → Option ℕ
decimal b bs = cond (eqb b 48) (zero_alone bs) (cond (is_digit b) (digits (b - 48) bs) None)

-- blanks, then a whole number, which has at least one digit
unfoldable pub parse : List ℕ → Option ℕ
parse [] = None
parse (b ∷ bs) = cond (eqb b blank) (parse bs) (decimal b bs)

-- the number that a field holds, 0 for a faulty one
unfoldable pub number_of : Option ℕ → ℕ
number_of (Some v) = v
number_of None = 0

unfoldable pub is_faulty : Option ℕ → Bool
is_faulty (Some v) = false
is_faulty None = true

-- Writing --------------------------------------------------------------------

-- the byte of a digit
abbrev pub digit : ℕ → ℕ
digit x = 48 + x

-- n columns for the number v: a blank where no digit of v is left
unfoldable pub leading : ℕ → ℕ → List ℕ
leading zero v = []
leading (suc n) v = leading n (v / 10) ++ (cond (eqb v 0) blank (digit (v % 10)) ∷ [])

-- the columns of v, n before the last one, which always has a digit
unfoldable pub columns : ℕ → ℕ → List ℕ
columns n v = leading n (v / 10) ++ (digit (v % 10) ∷ [])

-- a field that holds v; every number of the papers is below 10 to the power of the width
unfoldable pub write_field : ℕ → List ℕ
write_field v = columns (width - 1) v
