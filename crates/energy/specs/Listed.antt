-- Stretches as the listing gives them, in numbers. Definitions only. Assumes nothing.
use Rattle.std.specs.Prelude.{ℕ}
use Rattle.energy.specs.declared.stretch.State.{State}
use Rattle.energy.specs.declared.stretch.State.TheVariants.{Off, Idle, Busy}
use Rattle.energy.specs.declared.stretch.Stretch.{Stretch}

-- A stretch as its line of the listing gives it: its blower, its first and last slot, and its state (0 off, 1 idle and on, 2 busy).
pub record ListedStretch : Type 0 where
  pub blower : ℕ
  pub first : ℕ
  pub last : ℕ
  pub state : ℕ

-- the number of a state
abbrev pub number_of : State → ℕ
number_of Off = 0
number_of Idle = 1
number_of Busy = 2

-- the line's numbers of a stretch
abbrev pub listing_of : Stretch → ListedStretch
listing_of s = record { blower = s.blower; first = s.first; last = s.last; state = number_of s.state }
