-- The grid of feedings in words: a list F of the rations fed and a list R of those that rest, a word for each slot, bit k for ration k.
-- A ration rests in a slot that is in its window and in which it is not fed. These are definitions.
use Rattle.std.specs.Prelude.{◌≡◌, ◌≢◌, Bool, true, false, List, ℕ, ◌+◌, ◌-◌, ◌^◌, ◌≤◌, ◌<◌, eqb, length, get_or, set}
use Rattle.std.specs.Int.Bits.{bit_and}
use Rattle.std.specs.Int.Count.{ones}
use Rattle.grid.specs.Theory.{sum}
use Rattle.common.specs.Bits.{bit}

-- the slots of a grid: a shorter day leaves the last words 0
abbrev pub slots : ℕ
slots = 96

-- what a list has for slot t
abbrev pub at : List ℕ → ℕ → ℕ
at l t = get_or l t 0

-- how many rations slot t feeds
abbrev pub load : List ℕ → ℕ → ℕ
load F t = ones (at F t)

-- in how many slots ration k is fed
unfoldable pub volume : List ℕ → ℕ → ℕ
volume F k = sum slots (λ t. bit (at F t) k)

-- slot t is marked
abbrev pub Seen : List ℕ → ℕ → Type 0
Seen S t = 0 < at S t

-- some ration that is fed in x could be fed in y instead
abbrev pub Edge : List ℕ → List ℕ → ℕ → ℕ → Type 0
Edge F R x y = bit_and (at F x) (at R y) ≢ 0

-- no edge leaves the marked slots
abbrev pub Closed : List ℕ → List ℕ → List ℕ → Type 0
Closed F R S = (t z : ℕ) → Seen S t → Edge F R t z → Seen S z

-- t is reached from x by edges
pub data Reach (F R : List ℕ) : ℕ → ℕ → Type 0 where
  here : {x : ℕ} → Reach F R x x
  step : {x y t : ℕ} → Edge F R x y → Reach F R y t → Reach F R x t

-- a word for each slot in both lists, and no ration both fed and at rest in one slot
pub record Grid (F R : List ℕ) : Type 0 where
  pub fed : length F ≡ slots
  pub rest : length R ≡ slots
  pub disjoint : (t k : ℕ) → bit (at F t) k + bit (at R t) k ≤ 1

-- one ration, j, goes from slot x to slot y
pub record Move (F R F' R' : List ℕ) (x y : ℕ) : Type 0 where
  pub j : ℕ
  pub grid : Grid F R
  pub from : x < slots
  pub to : y < slots
  pub apart : x ≢ y
  pub has : bit (at F x) j ≡ 1
  pub wants : bit (at R y) j ≡ 1
  pub fed : F' ≡ set (set F x (at F x - 2 ^ j)) y (at F y + 2 ^ j)
  pub rest : R' ≡ set (set R x (at R x + 2 ^ j)) y (at R y - 2 ^ j)

-- a chain of moves from x to e, the last one made first; or none, where x is e
pub data Path : List ℕ → List ℕ → List ℕ → List ℕ → ℕ → ℕ → Type 0 where
  stay : {F R : List ℕ} {x : ℕ} → Grid F R → Path F R F R x x
  more :
      {F R F₁ R₁ F' R' : List ℕ} {x y e : ℕ} →
      Path F R F₁ R₁ y e →
      at F₁ x ≡ at F x →
      at R₁ x ≡ at R x →
      Move F₁ R₁ F' R' x y →
      Path F R F' R' x e

-- the same rations in each slot, fed or at rest, and each ration fed as often: another placing of the same rations
pub record Rearranged (F R F' R' : List ℕ) : Type 0 where
  pub grid : Grid F' R'
  pub words : (t : ℕ) → at F' t + at R' t ≡ at F t + at R t
  pub bits : (k t : ℕ) → bit (at F' t) k + bit (at R' t) k ≡ bit (at F t) k + bit (at R t) k
  pub volumes : (k : ℕ) → volume F' k ≡ volume F k

abbrev pub tick : Bool → ℕ
tick true = 1
tick false = 0

-- 1 where t is x, and else 0
abbrev pub ind : ℕ → ℕ → ℕ
ind t x = tick (eqb t x)
