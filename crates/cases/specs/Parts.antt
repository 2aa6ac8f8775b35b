-- The first elements of a list, and those after them. Definitions only. Assumes nothing.
use Rattle.std.specs.Prelude.{ℕ, List, [], length, take, drop, leb, if◌then◌else◌}

-- the first n elements, none where the list is shorter
abbrev pub first_part : {X : Type 0} → ℕ → List X → List X
first_part n xs = if leb n (length xs) then take n xs else []

-- the elements after the first n, none where the list is shorter
abbrev pub second_part : {X : Type 0} → ℕ → List X → List X
second_part n xs = if leb n (length xs) then drop n xs else []
