-- What listing the causes of a whole day ensures. Definitions only. Assumes nothing.
use Rattle.std.specs.Prelude.{◌≡◌, true, false, Option, Some, None, List, ℕ, replicate}
use Rattle.schedules.specs.Schedules.{Demand, feasible}
use Rattle.method.specs.Method.{bounds_under, loads}
use Rattle.method.specs.Keeping.{stretches}
use Rattle.method.specs.Endings.{EndedStretch, in_order, endings}
use Rattle.cause_lines.specs.declared.Extent.{Extent}
use Rattle.cause_lines.specs.EntryCalls.{Listing}

-- the stretches that end before the day's last slot, of a day of m blowers under a high for each slot
abbrev pub day_endings : (slots m : ℕ) → List Demand → (high : List ℕ) → List EndedStretch
day_endings slots m ds high = endings slots ds (bounds_under slots high) (in_order (stretches (loads slots ds m (bounds_under slots high))) m)

-- the day is held where no sound placing exists, and nothing is written; if not, its causes are listed
abbrev pub DayCauses : Option Extent → (slots m : ℕ) → List Demand → (high old new : List ℕ) → Type 0
DayCauses None slots m ds high old new = (feasible slots ds (replicate slots 0) high ≡ false) × (new ≡ old)
DayCauses (Some x) slots m ds high old new =
    (feasible slots ds (replicate slots 0) high ≡ true) × Listing (day_endings slots m ds high) old new x
