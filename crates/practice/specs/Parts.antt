-- What the functions within the crate require and ensure. Definitions only.
use Rattle.std.specs.Prelude.{◌≡◌, ℕ, ◌*◌, List}
use Rattle.common.specs.Buffers.{padded}
use Rattle.line.specs.Layout.{fields}
use Rattle.checks.specs.Limits.{max_rations}
use Rattle.checks.specs.Sheet.{numbers_to}
use Rattle.practice.specs.Practice.{seed_after, practice_job}

-- s comes after the three draws of a seed's head line: the numbers are those of its first n rations
abbrev pub RationsFrom : (s n : ℕ) → List ℕ → Type 0
RationsFrom s n numbers = (seed : ℕ) → s ≡ seed_after seed 3
    → numbers ≡ padded (fields * max_rations) (numbers_to (practice_job seed) n)
