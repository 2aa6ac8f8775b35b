-- The feedings: which placing with the counts is taken. Definitions only. Assumes nothing.
-- Slot t + 1 is element t of a list, and rations are counted from 0 too. A cell (t, j) is a slot and a ration.
use Rattle.std.specs.Prelude.{◌≡◌, Bool, true, ◌&&◌, ◌||◌, ℕ, ◌<◌, ltb, eqb, length}
use mathlib.Core.List.{List, [], map, foldl}
use Rattle.common.specs.Lists.{range, same, keep, first_or, or_else, flat_map}
use Rattle.schedules.specs.Schedules.{Demand, Schedule, Sound, schedules, load}
use Rattle.schedules.specs.AsFunctions.{fed}

-- ration j is fed in slot t
abbrev pub fed_at : ℕ → ℕ → Schedule → Bool
fed_at t j p = fed p j t

-- of some placings, those in which ration j is fed in slot t; all of them where there is none
unfoldable pub prefer : List Schedule → ℕ × ℕ → List Schedule
prefer ps c = or_else (keep (fed_at c.0 c.1) ps) ps

-- slots in rising order, in each slot rations in sheet order
unfoldable pub cells : (slots rations : ℕ) → List (ℕ × ℕ)
cells slots rations = flat_map (λ t. map (λ j. (t, j)) (range 0 rations)) (range 0 slots)

-- all placings with these counts
unfoldable pub with_counts : ℕ → List Demand → (counts : List ℕ) → List Schedule
with_counts slots ds counts = keep (λ p. same (load slots p) counts) (schedules ds)

-- the placing with these counts in which a ration is fed if some sound placing with these counts and all choices made before does so
unfoldable pub chosen : ℕ → List Demand → (counts : List ℕ) → Schedule
chosen slots ds counts = first_or [] (foldl prefer (with_counts slots ds counts) (cells slots (length ds)))

-- The same of a placing, without enumeration -----------------------------------

-- A set of cells: for each ration, whether its cell of each slot is in the set.
abbrev pub Cells : Type 0
Cells = ℕ → ℕ → Bool

-- the cells before (t, j): those of earlier slots, and those of earlier rations in the slot
abbrev pub before : (t j : ℕ) → Cells
before t j i u = ltb u t || (eqb u t && ltb i j)

-- two placings with the same choices in the cells of a set
abbrev pub SameIn : (slots rations : ℕ) → Cells → Schedule → Schedule → Type 0
SameIn slots rations D p q = (i u : ℕ) → i < rations → u < slots → D i u ≡ true → fed p i u ≡ fed q i u

-- p has these counts, and in each cell, if some sound placing with these counts and all choices made before feeds the ration, so does p
pub record Greedy (slots : ℕ) (ds : List Demand) (counts : List ℕ) (p : Schedule) : Type 0 where
  pub sound : Sound slots ds counts counts p
  pub fed_if_some : (t j : ℕ) → t < slots → j < length ds → (q : Schedule) → Sound slots ds counts counts q
      → SameIn slots (length ds) (before t j) q p → fed_at t j q ≡ true → fed_at t j p ≡ true
