-- What arrays stand for: tanks in flat numbers, the placing in words, a set of slots in marks. Definitions only. Assumes
-- nothing.
use Rattle.std.specs.Prelude.{List, map, ℕ, ◌*◌, eqb, ltb, get_or, take}
use Rattle.common.specs.Lists.{range}
use Rattle.common.specs.Bits.{bit}
use Rattle.line.specs.Layout.{fields}
use Rattle.schedules.specs.Slots.{Slots}
use Rattle.schedules.specs.Schedules.{Schedule}

-- the tank of ration j, from 0: the first of its four numbers
abbrev pub tank_at : List ℕ → ℕ → ℕ
tank_at numbers j = get_or numbers (fields * j) 0

unfoldable pub tanks_of : (rations : ℕ) → (numbers : List ℕ) → List ℕ
tanks_of rations numbers = map (tank_at numbers) (range 0 rations)

-- bit j of word t says whether ration j + 1 is fed in slot t + 1
unfoldable pub row_of : (slots : ℕ) → (words : List ℕ) → ℕ → Slots
row_of slots words j = map (λ w. eqb (bit w j) 1) (take slots words)

unfoldable pub placing_of : (slots rations : ℕ) → (words : List ℕ) → Schedule
placing_of slots rations words = map (row_of slots words) (range 0 rations)

-- a slot is in the set where its mark is not 0
unfoldable pub set_of : (slots : ℕ) → (marks : List ℕ) → Slots
set_of slots marks = map (ltb 0) (take slots marks)
