-- What the functions within the crate require and ensure. Definitions only.
use Rattle.std.specs.Prelude.{◌≡◌, cond, List, Option, Some, None, ℕ, ◌+◌, ◌*◌, ◌≤◌, eqb, length}
use Rattle.line.specs.Layout.{fields, line_bytes}
use Rattle.checks.specs.Limits.{max_rations}

-- a line's number from 1, where 0 stands for none
abbrev pub some_line : ℕ → Option ℕ
some_line n = cond (eqb n 0) None (Some n)

-- the line is there, and the flat numbers have room for its four
pub record CanPutNumbers (s : List ℕ) (line : ℕ) (numbers : List ℕ) (at : ℕ) : Type 0 where
  pub there : line_bytes * line + line_bytes ≤ length s
  pub long : length numbers ≡ fields * max_rations
  pub room : at + fields ≤ fields * max_rations

-- the flat numbers hold n rations, and the buffer has room for the head line and theirs
pub record CanPutRations (out : List ℕ) (n : ℕ) (numbers : List ℕ) : Type 0 where
  pub few : n ≤ max_rations
  pub there : fields * n ≤ length numbers
  pub room : line_bytes * (n + 1) ≤ length out
