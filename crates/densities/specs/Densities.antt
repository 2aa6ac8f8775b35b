-- The density of a ration: its volume, spread evenly over its window. In 4,096ths of a feeding, rounded up; slots and
-- rations are counted from 0. Definitions only. Assumes nothing.
use Rattle.std.specs.Prelude.{◌≡◌, List, ℕ, suc, ◌+◌, ◌-◌, ◌*◌, ◌/◌, ◌≤◌, ◌<◌, length, get_or}
use Rattle.checks.specs.Limits.{max_slots, max_rations}
use Rattle.theory.specs.Sums.{sum}
use Rattle.theory.specs.SumsOver.{pick}
use Rattle.placing.specs.Rations.{release_at, deadline_at, volume_at}
use Rattle.placing.specs.Words.{in_window}

-- how many parts a feeding has
abbrev pub scale : ℕ
scale = 4096

-- volume / span, in these parts, rounded up; the span is how many slots the window has
unfoldable pub density : (volume span : ℕ) → ℕ
density volume span = (scale * volume + (span - 1)) / span

-- of ration j
abbrev pub density_of : (numbers : List ℕ) (j : ℕ) → ℕ
density_of numbers j = density (volume_at numbers j) (suc (deadline_at numbers j) - release_at numbers j)

-- what n rations have in slot t: the densities of those whose window it is in
unfoldable pub density_at : (n : ℕ) (numbers : List ℕ) (t : ℕ) → ℕ
density_at n numbers t =
    sum n (λ j. pick (in_window (release_at numbers j) (deadline_at numbers j) t) (density_of numbers j))

-- the sums of n rations, slot by slot
pub record DensitySums (n : ℕ) (numbers : List ℕ) (sums : List ℕ) : Type 0 where
  pub long : length sums ≡ max_slots
  pub each : (t : ℕ) → get_or sums t 0 ≡ density_at n numbers t

-- no slot has more; that one has as much is not asked
pub record DensityMost (n : ℕ) (numbers : List ℕ) (most : ℕ) : Type 0 where
  pub each : (t : ℕ) → t < max_slots → density_at n numbers t ≤ most
  pub small : most ≤ scale * max_rations

-- what adding a density in the slots of a window requires
pub record CanAdd (sums : List ℕ) (release deadline parts : ℕ) : Type 0 where
  pub long : length sums ≡ max_slots
  pub first : 1 ≤ release
  pub order : release ≤ deadline
  pub last : deadline ≤ max_slots
  pub fits : (t : ℕ) → get_or sums t 0 + parts ≤ scale * max_rations
