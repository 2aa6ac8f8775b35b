-- The version of what programs outside rely on: the form of sheets and listings, sizes, calls and answers. Definitions
-- only.
use Rattle.std.specs.Prelude.{ℕ}

-- fields have six columns; version 1 had five
abbrev pub version : ℕ
version = 2
