-- What the calls answer: the stretch at a place, on slots and starts of a blower, energy and starts of a day. Assumes
-- nothing.
use Rattle.std.specs.Prelude.{◌≡◌, List, map, ℕ, ◌≤◌, length, get_or}
use Rattle.checks.specs.Limits.{max_wake}
use Rattle.method.specs.Intervals.{Interval}
use Rattle.method.specs.FrontRunLaws.{stretches_from}
use Rattle.energy.specs.Energy.{listed, on_slots, starts_of, starts, energy}
use Rattle.energy.specs.Listed.{ListedStretch}
use Rattle.energy.specs.declared.BlowerUse.{BlowerUse}
use Rattle.energy.specs.declared.DayUse.{DayUse}

abbrev pub no_stretch : ListedStretch
no_stretch = record { blower = 0; first = 0; last = 0; state = 0 }

-- the stretch of blower k that begins in slot from + 1: the first of those from there on
unfoldable pub stretch_at : (wake : ℕ) → (counts : List ℕ) → (slots k from : ℕ) → ListedStretch
stretch_at q counts slots k from = get_or (map (listed slots q k) (stretches_from counts slots k from)) 0 no_stretch

unfoldable pub blower_use : (slots wake : ℕ) → List Interval → BlowerUse
blower_use d q vs = record { on = on_slots d q vs; starts = starts_of d q vs }

unfoldable pub day_use : ℕ → ℕ → List ℕ → DayUse
day_use m q counts = record { energy = energy m q counts; starts = starts m q counts }

-- the counts of a day's slots, in an array of 96
pub record Day (counts : List ℕ) (slots : ℕ) : Type 0 where
  pub long : length counts ≡ 96
  pub day : slots ≤ 96

-- a sheet's blowers and wake cost
pub record CanCharge (blowers wake : ℕ) : Type 0 where
  pub few : blowers ≤ 8
  pub wake_most : wake ≤ max_wake
