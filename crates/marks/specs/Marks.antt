-- Slot marks: a list that names a set of slots. Definitions only. Assumes nothing.
use Rattle.std.specs.Prelude.{Bool, ◌||◌, not, List, map, ℕ, leb, eqb, length}
use Rattle.common.specs.Lists.{every}
use Rattle.schedules.specs.Slots.{Slots}

-- a mark is 0 or 1
unfoldable pub is_mark : ℕ → Bool
is_mark x = leb x 1

-- the slots that are marked 1
unfoldable pub marked : List ℕ → Slots
marked = map (λ x. eqb x 1)

-- 11: the list is not D long, or a mark is not 0 or 1
unfoldable pub marks_fault : ℕ → List ℕ → Bool
marks_fault slots marks = not (eqb (length marks) slots) || not (every (map is_mark marks))
