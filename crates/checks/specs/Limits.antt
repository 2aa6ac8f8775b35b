-- The limits of a sheet by document 01 and request 110, each named once; src/limits.rt names the same for the code.
-- Definitions only.
use Rattle.std.specs.Prelude.{ℕ}

-- bytes of a sheet, at most
abbrev pub max_bytes : ℕ
max_bytes = 65520

-- D, at most
abbrev pub max_slots : ℕ
max_slots = 96

-- m, at most
abbrev pub max_blowers : ℕ
max_blowers = 8

-- q, at most
abbrev pub max_wake : ℕ
max_wake = 2000

-- n, at most
abbrev pub max_rations : ℕ
max_rations = 64

abbrev pub max_tank : ℕ
max_tank = 250000
