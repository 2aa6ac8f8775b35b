-- The numbers of a set Q of slots (document 000, definitions 4, 6, 9 and 10), and the set contained in every set of greatest shortfall.
-- Definitions only. Assumes nothing.
use Rattle.std.specs.Prelude.{◌≡◌, Bool, true, ℕ, ◌-◌, min, length, replicate, ℤ, pos, ◌≤ℤ◌}
use mathlib.Core.List.{List, map, foldr}
use Rattle.std.proofs.Math.IntN.{sub_ℕ}
use Rattle.std.specs.Int.Signed.{le_z}
use Rattle.common.specs.Lists.{sum, every, keep}
use Rattle.schedules.specs.Slots.{Slots, inside, outside, sum_over, subsets, meet}
use Rattle.schedules.specs.Schedules.{Demand, AtMost}

-- forced(Q), forced volume (definition 4): sum over demands of the larger of 0 and volume − |E outside Q|
unfoldable pub forced : List Demand → Slots → ℕ
forced ds q = sum (map (λ d. d.volume - outside d.window q) ds)

-- the capacity of Q: the sum of high over Q
abbrev pub capacity : List ℕ → Slots → ℕ
capacity = sum_over

-- shortfall(Q), deficiency (definition 9): below zero is spare capacity
unfoldable pub shortfall : List Demand → (high : List ℕ) → Slots → ℤ
shortfall ds high q = sub_ℕ (forced ds q) (capacity high q)

-- possible(Q), possible volume (definition 6): sum over demands of the smaller of volume and |E inside Q|
unfoldable pub possible : List Demand → Slots → ℕ
possible ds q = sum (map (λ d. min d.volume (inside d.window q)) ds)

-- excess(Q) (definition 10)
unfoldable pub excess : List Demand → (low : List ℕ) → Slots → ℤ
excess ds low q = sub_ℕ (sum_over low q) (possible ds q)

-- low ≤ high in every slot, and no set of the day's slots has shortfall or excess above zero
pub record NoObstacle (slots : ℕ) (ds : List Demand) (low high : List ℕ) : Type 0 where
  pub ordered : AtMost slots low high
  pub no_shortfall : (q : Slots) → length q ≡ slots → shortfall ds high q ≤ℤ pos 0
  pub no_excess : (q : Slots) → length q ≡ slots → excess ds low q ≤ℤ pos 0

-- Sets of greatest value ------------------------------------------------------

-- no set of the day's slots has a greater value than q
unfoldable pub greatest : (slots : ℕ) → (Slots → ℤ) → Slots → Bool
greatest slots value q = every (map (λ r. le_z (value r) (value q)) (subsets slots))

-- the slots that are in every set of greatest value
unfoldable pub in_every_greatest : (slots : ℕ) → (Slots → ℤ) → Slots
in_every_greatest slots value = foldr meet (replicate slots true) (keep (greatest slots value) (subsets slots))

-- Q of document 01: the set contained in every set of greatest shortfall (not the critical set of document 000, definition 15)
unfoldable pub critical_set : (slots : ℕ) → List Demand → (high : List ℕ) → Slots
critical_set slots ds high = in_every_greatest slots (shortfall ds high)
