-- A running tally of a blower's charge, which takes one slot after another. Definitions only. Assumes nothing.
use Rattle.std.specs.Prelude.{List, [], ◌∷◌, ℕ, suc, ◌+◌, ◌*◌, ◌^◌, ◌≤◌, ◌<◌, replicate}
use Rattle.common.specs.Lists.{flat_map}
use Rattle.checks.specs.Limits.{max_wake}
use Rattle.energy.specs.Listed.{ListedStretch}
use Rattle.energy.specs.Energy.{listed_for, start_at}
use Rattle.bill.specs.Bill.{rate_of, extent, on_rate}

-- A blower's charge, and the number of its state in the last slot taken.
pub record Tally : Type 0 where
  pub charge : ℕ
  pub state : ℕ

-- blowers are off before slot 1
abbrev pub no_tally : Tally
no_tally = record { charge = 0; state = 0 }

-- what slot t costs in its state, after the state before it
unfoldable pub slot_charge : (wake slot before state : ℕ) → ℕ
slot_charge q t before x = on_rate x t + start_at before x * (q * rate_of t)

-- one slot more
unfoldable pub with_slot : (wake slot state : ℕ) → Tally → Tally
with_slot q t x y = record { charge = y.charge + slot_charge q t y.state x; state = x }

-- the slots from t on, in these states
unfoldable pub with_slots : (wake slot : ℕ) → (states : List ℕ) → Tally → Tally
with_slots q t [] y = y
with_slots q t (x ∷ xs) y = with_slots q (suc t) xs (with_slot q t x y)

-- a stretch more, slot after slot
unfoldable pub with_stretch : (wake : ℕ) → ListedStretch → Tally → Tally
with_stretch q s = with_slots q s.first (replicate (extent s) s.state)

-- the state of each slot of stretches one after another
unfoldable pub states_of : List ListedStretch → List ℕ
states_of = flat_map (λ s. replicate (extent s) s.state)

-- blower k's tally of a day with these counts
unfoldable pub tally_of : (wake : ℕ) → (counts : List ℕ) → (k : ℕ) → Tally
tally_of q counts k = with_slots q 1 (states_of (listed_for q counts k)) no_tally

-- What the functions require --------------------------------------------------------

-- a slot of a day, and a tally that has room for it
pub record CanAddSlot (wake slot state : ℕ) (y : Tally) : Type 0 where
  pub begins : 1 ≤ slot
  pub ends : slot ≤ 96
  pub wake_most : wake ≤ max_wake
  pub fits : (with_slot wake slot state y).charge < 2 ^ 32

-- a tally that has room for a stretch
pub record CanAddStretch (wake : ℕ) (s : ListedStretch) (y : Tally) : Type 0 where
  pub wake_most : wake ≤ max_wake
  pub fits : (with_stretch wake s y).charge < 2 ^ 32
