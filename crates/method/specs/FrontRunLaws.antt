-- The stretches of a blower one after another: the first runs as long as its state, and the others are those of the slots after it. Assumes nothing.
use Rattle.std.specs.Prelude.{◌≡◌, Bool, cond, List, [], ◌∷◌, map, ℕ, suc, ◌+◌, ◌≤◌, ◌<◌, leb, get_or}
use Rattle.std.specs.Bool.{beq}
use Rattle.common.specs.Lists.{part}
use Rattle.method.specs.Intervals.{Interval, runs}

abbrev pub stretch : ℕ → ℕ → Bool → Interval
stretch first last busy = record { first = first; last = last; busy = busy }

-- how many elements at the front of a list are b
unfoldable pub front_run : Bool → List Bool → ℕ
front_run b [] = 0
front_run b (c ∷ cs) = cond (beq b c) (suc (front_run b cs)) 0

-- the states of blower k from place `from` on, which is slot from + 1: busy where the count is at least k
abbrev pub busy_from : List ℕ → (slots k from : ℕ) → List Bool
busy_from counts slots k from = map (leb k) (part from slots counts)

-- the stretches of blower k from place `from` on
unfoldable pub stretches_from : List ℕ → (slots k from : ℕ) → List Interval
stretches_from counts slots k from = runs (suc from) (busy_from counts slots k from)

-- The stretch that begins after place `from` ends after place r: where its state stops, or with the day.
pub record EndsAt (counts : List ℕ) (slots k from r : ℕ) : Type 0 where
  pub after : from < r
  pub within : r ≤ slots
  pub next : stretches_from counts slots k from ≡ stretch (from + 1) r (leb k (get_or counts from 0)) ∷ stretches_from counts slots k r
