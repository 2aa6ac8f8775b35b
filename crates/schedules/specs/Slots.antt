-- Sets of slots. Slot t of the day is element t − 1 of a list. Definitions only. Assumes nothing.
use Rattle.std.specs.Prelude.{Bool, true, false, ◌&&◌, not, cond, List, [], ◌∷◌, ◌++◌, map, ℕ, zero, suc, leb, get_or}
use Rattle.common.specs.Lists.{range, sum, count, zip_with}

-- A set of slots (Q): for each slot of the day, whether it is in the set.
abbrev pub Slots : Type 0
Slots = List Bool

-- slot t + 1 is in the set
abbrev pub has : Slots → ℕ → Bool
has q t = get_or q t false

-- the execution interval (window) from a first to a last slot, both in it
unfoldable pub window : (slots release deadline : ℕ) → Slots
window slots release deadline = map (λ t. leb release t && leb t deadline) (range 1 slots)

-- |E inside Q|
unfoldable pub inside : Slots → Slots → ℕ
inside e q = count (zip_with ◌&&◌ e q)

-- |E outside Q|
unfoldable pub outside : Slots → Slots → ℕ
outside e q = count (zip_with (λ a b. a && not b) e q)

-- the sum of a bound over Q
unfoldable pub sum_over : List ℕ → Slots → ℕ
sum_over bound q = sum (zip_with (λ x b. cond b x 0) bound q)

-- all sets of the day's slots
unfoldable pub subsets : ℕ → List Slots
subsets zero = [] ∷ []
subsets (suc slots) = map (λ q. true ∷ q) (subsets slots) ++ map (λ q. false ∷ q) (subsets slots)

-- the slots that are in both sets
abbrev pub meet : Slots → Slots → Slots
meet = zip_with ◌&&◌
