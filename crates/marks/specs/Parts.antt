-- What the functions on counts require. Definitions only. Assumes nothing.
use Rattle.std.specs.Prelude.{◌≡◌, List, ℕ, suc, ◌-◌, ◌≤◌, length, get_or}
use Rattle.checks.specs.Limits.{max_slots}
use Rattle.marks.specs.Counts.{marked_in}

-- a window whose marks the counts give: they don't fall from before its first slot to its last, and rise by its length
-- at most
pub record CanCount (before : List ℕ) (release deadline : ℕ) : Type 0 where
  pub first : 1 ≤ release
  pub order : release ≤ deadline
  pub last : deadline ≤ max_slots
  pub long : length before ≡ suc max_slots
  pub rising : get_or before (release - 1) 0 ≤ get_or before deadline 0
  pub within : marked_in before release deadline ≤ suc deadline - release
