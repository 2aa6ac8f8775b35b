-- The layout of a line by request 110, each number named once; src/layout.rt names the same for the code. Definitions
-- only.
use Rattle.std.specs.Prelude.{ℕ}

-- columns of a field
abbrev pub width : ℕ
width = 6

-- fields of a line
abbrev pub fields : ℕ
fields = 4

-- bytes of a line: its fields and the closing byte
abbrev pub line_bytes : ℕ
line_bytes = 25

-- the bytes that are not digits: a blank, and the byte that closes a line
abbrev pub blank : ℕ
blank = 32

abbrev pub newline : ℕ
newline = 10
