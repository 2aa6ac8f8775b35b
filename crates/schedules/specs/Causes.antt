-- Why no sound placing exists under a low and a high for each slot: the causes of request 105. Definitions only.
-- Assumes nothing.
use Rattle.std.specs.Prelude.{◌≡◌, ◌⊎◌, Bool, true, false, cond, List, [], ◌∷◌, ℕ, ◌≤◌, ◌<◌, eqb, ltb, length, get_or, replicate, ℤ, pos, ◌≤ℤ◌}
use Rattle.std.specs.Int.Signed.{lt_z}
use Rattle.common.specs.Lists.{any, zip_with}
use Rattle.schedules.specs.Slots.{Slots, has, sum_over, subsets}
use Rattle.schedules.specs.Schedules.{Demand, AtMost}
use Rattle.schedules.specs.Shortfall.{forced, capacity, shortfall, possible, excess, in_every_greatest, critical_set}
use Rattle.schedules.specs.Tabulate.{tab}

-- the set contained in every set of greatest excess
unfoldable pub excess_set : (slots : ℕ) → List Demand → (low : List ℕ) → Slots
excess_set slots ds low = in_every_greatest slots (excess ds low)

-- some set of the day's slots has a value above zero
unfoldable pub some_above : (slots : ℕ) → (Slots → ℤ) → Bool
some_above slots value = any (λ q. lt_z (pos 0) (value q)) (subsets slots)

-- the slots whose low is above their high
unfoldable pub crossed : (low high : List ℕ) → Slots
crossed low high = zip_with (λ l h. ltb h l) low high

-- the lowest slot of a set, alone
unfoldable pub lowest : Slots → Slots
lowest [] = []
lowest (true ∷ q) = true ∷ replicate (length q) false
lowest (false ∷ q) = false ∷ lowest q

-- A cause as the listing gives it: its number and its slots.
pub record Obstacle : Type 0 where
  pub number : ℕ
  pub set : Slots

-- what stands in the way of a sound placing, the first of these: 3, the bounds of some slot cross; 1, a shortfall; 2,
-- an excess. Where nothing does, number 0.
unfoldable pub obstacle : (slots : ℕ) → List Demand → (low high : List ℕ) → Obstacle
obstacle slots ds low high =
    cond (any (λ b. b) (crossed low high)) (record { number = 3; set = lowest (crossed low high) })
    (cond (some_above slots (shortfall ds high)) (record { number = 1; set = critical_set slots ds high })
    (cond (some_above slots (excess ds low)) (record { number = 2; set = excess_set slots ds low })
    (record { number = 0; set = replicate slots false })))

-- The three causes, as request 105 says them ----------------------------------

-- slot t + 1 alone is in q, its low is above its high, and no lower slot's is
pub record CrossedCause (slots : ℕ) (low high : List ℕ) (q : Slots) : Type 0 where
  pub t : ℕ
  pub in_day : t < slots
  pub above : get_or high t 0 < get_or low t 0
  pub lowest_such : (u : ℕ) → u < t → get_or low u 0 ≤ get_or high u 0
  pub alone : q ≡ tab slots (λ u. eqb u t)

-- no low is above a high; more is forced into q than its capacity, no set has a greater shortfall, and every set that
-- has as much contains q
pub record ShortfallCause (slots : ℕ) (ds : List Demand) (low high : List ℕ) (q : Slots) : Type 0 where
  pub ordered : AtMost slots low high
  pub above : capacity high q < forced ds q
  pub at_most : (r : Slots) → length r ≡ slots → shortfall ds high r ≤ℤ shortfall ds high q
  pub holds_all : (r : Slots) → length r ≡ slots → shortfall ds high q ≤ℤ shortfall ds high r → (t : ℕ) → has q t ≡ true → has r t ≡ true

-- no low is above a high and no set has a shortfall above zero; the lows of q ask for more than is possible in it, no
-- set has a greater excess, and every set that has as much contains q
pub record ExcessCause (slots : ℕ) (ds : List Demand) (low high : List ℕ) (q : Slots) : Type 0 where
  pub ordered : AtMost slots low high
  pub no_shortfall : (r : Slots) → length r ≡ slots → shortfall ds high r ≤ℤ pos 0
  pub above : possible ds q < sum_over low q
  pub at_most : (r : Slots) → length r ≡ slots → excess ds low r ≤ℤ excess ds low q
  pub holds_all : (r : Slots) → length r ≡ slots → excess ds low q ≤ℤ excess ds low r → (t : ℕ) → has q t ≡ true → has r t ≡ true

-- o is the cause under these bounds: 3, 1 or 2, with its slots
abbrev pub IsCause : (slots : ℕ) → List Demand → (low high : List ℕ) → Obstacle → Type 0
IsCause slots ds low high o =
    ((o.number ≡ 3) × CrossedCause slots low high o.set)
    ⊎ ((o.number ≡ 1) × ShortfallCause slots ds low high o.set)
    ⊎ ((o.number ≡ 2) × ExcessCause slots ds low high o.set)
