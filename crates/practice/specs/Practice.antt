-- Practice sheets: the draws from a seed, and the sheet that they make. Request 107. Definitions only.
use Rattle.std.specs.Prelude.{ℕ, zero, suc, ◌+◌, ◌-◌, ◌*◌, ◌/◌, ◌%◌, ◌^◌, Bool, not, ◌||◌, List, [], ◌∷◌, ◌++◌, map, length, take, ◌==◌, nat_lt, slice_index}
use Rattle.common.specs.Lists.{range}
use Rattle.line.specs.Layout.{width, newline, line_bytes}
use Rattle.line.specs.Field.{parse, number_of, is_faulty, write_field}
use Rattle.checks.specs.declared.Refusal.{Refusal}
use Rattle.checks.specs.Sheet.{Job, Sheet}
use Rattle.sheet.specs.Calls.{write_refusal_for}

-- Draws ----------------------------------------------------------------------

-- a draw sets s to this; what passes 32 bits is dropped
unfoldable pub next_seed : ℕ → ℕ
next_seed s = (1664525 * s + 1013904223) % 2 ^ 32

-- s after k draws
unfoldable pub seed_after : ℕ → ℕ → ℕ
seed_after s zero = s
seed_after s (suc k) = next_seed (seed_after s k)

-- what draw k from s yields, k from 1: s after it, divided by 65,536 and rounded down
unfoldable pub draw : ℕ → ℕ → ℕ
draw s k = seed_after s k / 65536

-- The sheet --------------------------------------------------------------------

-- the ration of a tank, by three draws from s
unfoldable pub drawn_job : ℕ → ℕ → Job
drawn_job s tank =
    let first : ℕ = 1 + draw s 1 % 96 in
    let last : ℕ = first + draw s 2 % (97 - first) in
    record { tank = tank; release = first; deadline = last; volume = 1 + draw s 3 % (last + 1 - first) }

-- the same of a seed's sheet: the head line takes three draws first, and each tank before this one three more
unfoldable pub practice_job : ℕ → ℕ → Job
practice_job seed tank = drawn_job (seed_after seed (3 * tank)) tank

-- the sheet of a seed, with tanks 1, 2, ..
unfoldable pub practice_sheet : ℕ → Sheet
practice_sheet seed =
    record {
      slots = 96;
      blowers = 1 + draw seed 1 % 8;
      wake = draw seed 2 % 201;
      jobs = map (practice_job seed) (range 1 (draw seed 3 % 65));
    }

-- bytes of the longest one, 1,625: its head line and a line for each of 64 rations
abbrev pub practice_bytes : ℕ
practice_bytes = line_bytes * (1 + 64)

-- The call -----------------------------------------------------------------------

-- a lent buffer of this size: the sheet itself is refused by no check, and 10 is left
unfoldable pub practice_refusal : ℕ → ℕ → Refusal
practice_refusal seed size = write_refusal_for [] (practice_sheet seed) size

-- A seed as an input ---------------------------------------------------------------

-- the input of a seed: its field, closed by byte 10
abbrev pub seed_input : ℕ → List ℕ
seed_input seed = write_field seed ++ (newline ∷ [])

-- the number in that field
unfoldable pub seed_in : List ℕ → ℕ
seed_in b = number_of (parse (take width b))

-- the greatest seed that an input may have
abbrev pub max_seed : ℕ
max_seed = 99999

-- any input but one field in the stated form, closed by byte 10, with a number from 0 to 99,999
unfoldable pub faulty_seed : List ℕ → Bool
faulty_seed b =
    not (length b == suc width)
    || (is_faulty (parse (take width b)) || (nat_lt max_seed (seed_in b) || not (slice_index b width == newline)))
