-- What the functions within the crate require and ensure: the steps of reading and writing a field. Definitions only.
use Rattle.std.specs.Prelude.{Bool, cond, not, ℕ, ◌%◌, ◌==◌, eqb}
use Rattle.line.specs.Layout.{blank}
use Rattle.line.specs.Field.{digit}

-- a byte that is no blank
abbrev pub is_other : ℕ → Bool
is_other b = not (b == blank)

-- the byte of a column left of the last, where `rest` is the number without the digits of the columns after it
unfoldable pub column : ℕ → ℕ
column rest = cond (eqb rest 0) blank (digit (rest % 10))
