-- What the search for a chain of moves requires and ensures. F and R are the grid, H the highs, S the marks; with a stroke, as they are
-- afterwards. The search spreads from slot x: O has the order in which it marks slots, from 1, w the rations fed in the slots that it has
-- marked, n the last number that it gave. These are definitions.
use Rattle.std.specs.Prelude.{◌≡◌, ◌≢◌, ◌⊎◌, Bool, true, false, List, [], ◌∷◌, ℕ, zero, suc, ◌+◌, ◌≤◌, ◌<◌, length, set}
use Rattle.std.specs.Int.Bits.{bit_and, bit_or}
use Rattle.std.specs.Int.Count.{ones}
use Rattle.grid.specs.Grid.{slots, at, load, Seen, Edge, Closed, Reach, Grid, Path}

-- ---- `shift`

-- a ration can go from x to y
pub record CanShift (F R : List ℕ) (x y : ℕ) : Type 0 where
  pub grid : Grid F R
  pub from : x < slots
  pub to : y < slots
  pub apart : x ≢ y
  pub edge : Edge F R x y

-- ---- `push`

-- the search changed nothing
pub record Same (F R F' R' : List ℕ) : Type 0 where
  pub fed : F' ≡ F
  pub rest : R' ≡ R

-- the search from x came to a slot `end` with room, and moved a ration along the chain
pub record Won (F R H S F' R' : List ℕ) (x : ℕ) : Type 0 where
  pub end : ℕ
  pub path : Path F R F' R' x end
  pub inside : end < slots
  pub apart : end ≢ x
  pub new : at S end ≡ 0
  pub room : load F end < at H end
  pub kept : (t : ℕ) → Seen S t → t ≢ x → (at F' t ≡ at F t) × (at R' t ≡ at R t)
  pub closed : (Q : List ℕ) → ((t : ℕ) → Seen Q t → Seen S t × (t ≢ x)) → Closed F R Q → Closed F' R' Q

-- the search from x failed: what is known of the slots that are marked now, and were not before
pub record Lost (F R H S S' : List ℕ) (x : ℕ) : Type 0 where
  pub grow : (t : ℕ) → Seen S t → Seen S' t
  pub mark : Seen S' x
  pub full : (t : ℕ) → Seen S' t → at S t ≡ 0 → (t ≡ x) ⊎ (at H t ≤ load F t)
  pub closed : (t z : ℕ) → Seen S' t → at S t ≡ 0 → Edge F R t z → Seen S' z
  pub reach : (t : ℕ) → Seen S' t → at S t ≡ 0 → Reach F R x t

-- what `push` requires: x is not marked
pub record CanPush (F R H S : List ℕ) (x : ℕ) : Type 0 where
  pub grid : Grid F R
  pub highs : length H ≡ slots
  pub marks : length S ≡ slots
  pub from : x < slots
  pub new : at S x ≡ 0

pub record Pushed (r : Bool) (F R H S F' R' S' : List ℕ) (x : ℕ) : Type 0 where
  pub marks : length S' ≡ slots
  pub won : r ≡ true → Won F R H S F' R' x
  pub same : r ≡ false → Same F R F' R'
  pub lost : r ≡ false → Lost F R H S S' x

-- ---- `straight`

-- a slot with the fed word f, the rest word r, the high h and the mark s can take a ration from one with the fed word w
pub record Open (b : Bool) (w f r h s : ℕ) : Type 0 where
  pub edge : b ≡ true → bit_and w r ≢ 0
  pub new : b ≡ true → s ≡ 0
  pub room : b ≡ true → ones f < h

-- slot y, if it is one, can take a ration straight from x
pub record Straight (F R H S : List ℕ) (x y : ℕ) : Type 0 where
  pub edge : y < slots → Edge F R x y
  pub new : y < slots → at S y ≡ 0
  pub room : y < slots → load F y < at H y

-- ---- `look`, `sweep`

-- how many slots are not marked
unfoldable pub unmarked : List ℕ → ℕ
unmarked [] = zero
unmarked (zero ∷ l) = suc (unmarked l)
unmarked (suc n ∷ l) = unmarked l

-- no more numbers were given than slots are marked
pub record CanSweep (F R H S O : List ℕ) (n : ℕ) : Type 0 where
  pub fed : length F ≡ slots
  pub rest : length R ≡ slots
  pub highs : length H ≡ slots
  pub marks : length S ≡ slots
  pub orders : length O ≡ slots
  pub numbers : n + unmarked S ≤ slots

pub record CanLook (F R H S O : List ℕ) (n y : ℕ) : Type 0 where
  pub sweep : CanSweep F R H S O n
  pub slot : y < slots

-- y is not marked, and some ration that is fed in a marked slot rests in it
pub record Touched (R S : List ℕ) (w y : ℕ) : Type 0 where
  pub slot : y < slots
  pub new : at S y ≡ 0
  pub edge : bit_and w (at R y) ≢ 0

-- what a look at slot y does: nothing; or y, which is full, is marked; or y, which has room, is marked and found. e is the slot found, or `slots`
pub data Looked (F R H S O : List ℕ) (w n y : ℕ) : List ℕ → List ℕ → ℕ → ℕ → ℕ → Type 0 where
  skip : (at S y ≡ 0 → bit_and w (at R y) ≡ 0) → Looked F R H S O w n y S O w n slots
  mark :
      Touched R S w y →
      at H y ≤ load F y →
      Looked F R H S O w n y (set S y 1) (set O y (n + 1)) (bit_or w (at F y)) (n + 1) slots
  find : Touched R S w y → load F y < at H y → Looked F R H S O w n y (set S y 1) (set O y (n + 1)) w (n + 1) y

-- it found the slot e
abbrev pub LookedTo : (F R H S O : List ℕ) (w n y : ℕ) (S' O' : List ℕ) (e : ℕ) → Type 0
LookedTo F R H S O w n y S' O' e = (e < slots) × Looked F R H S O w n y S' O' w (n + 1) e

-- any number of full slots are marked, one after another
pub data Spread (F R H S O : List ℕ) (w n : ℕ) : List ℕ → List ℕ → ℕ → ℕ → Type 0 where
  none : Spread F R H S O w n S O w n
  more :
      {S₁ O₁ : List ℕ} {w₁ n₁ y : ℕ} →
      Spread F R H S O w n S₁ O₁ w₁ n₁ →
      Touched R S₁ w₁ y →
      at H y ≤ load F y →
      Spread F R H S O w n (set S₁ y 1) (set O₁ y (n₁ + 1)) (bit_or w₁ (at F y)) (n₁ + 1)

-- what a look at every slot does: full slots are marked until one with room is found; or all are looked at, and where none was marked no
-- ration that is fed in a marked slot rests in one that is not
pub data Swept (F R H S O : List ℕ) (w n : ℕ) : List ℕ → List ℕ → ℕ → ℕ → ℕ → Type 0 where
  found :
      {S₁ O₁ : List ℕ} {w₁ n₁ y : ℕ} →
      Spread F R H S O w n S₁ O₁ w₁ n₁ →
      Touched R S₁ w₁ y →
      load F y < at H y →
      Swept F R H S O w n (set S₁ y 1) (set O₁ y (n₁ + 1)) w₁ (n₁ + 1) y
  passed :
      {S' O' : List ℕ} {w' n' : ℕ} →
      Spread F R H S O w n S' O' w' n' →
      (n' ≡ n → (z : ℕ) → z < slots → at S' z ≡ 0 → bit_and w' (at R z) ≡ 0) →
      Swept F R H S O w n S' O' w' n' slots

-- it found the slot e
abbrev pub SweptTo : (F R H S O : List ℕ) (w n : ℕ) (S' O' : List ℕ) (e : ℕ) → Type 0
SweptTo F R H S O w n S' O' e = (e < slots) × ((w' : ℕ) × (n' : ℕ) × Swept F R H S O w n S' O' w' n' e)

-- ---- `spread`

-- O numbers slots: x is the first, and each other one has an edge from a slot with a smaller number
pub record Numbered (F R O : List ℕ) (x : ℕ) : Type 0 where
  pub orders : length O ≡ slots
  pub root : at O x ≡ 1
  pub first : (t : ℕ) → at O t ≡ 1 → t ≡ x
  pub parent : (t : ℕ) → 1 < at O t → (p : ℕ) × Seen O p × (at O p < at O t) × Edge F R p t

-- no slot is numbered yet
pub record CanSpread (F R H S O : List ℕ) (x : ℕ) : Type 0 where
  pub push : CanPush F R H S x
  pub orders : length O ≡ slots
  pub blank : (t : ℕ) → at O t ≡ 0

-- what `spread` ensures of the slot e that it gives, `slots` for none
pub record Sought (F R H S S' O' : List ℕ) (x e : ℕ) : Type 0 where
  pub marks : length S' ≡ slots
  pub numbered : Numbered F R O' x
  pub new : (t : ℕ) → Seen O' t → at S t ≡ 0
  pub found : e < slots → (1 < at O' e) × (load F e < at H e)
  pub lost : slots ≤ e → Lost F R H S S' x

-- ---- `parent`

-- a numbered slot with the fed word f and the number n has an edge to one with the rest word r and the greater number m
pub record IsParent (b : Bool) (f n r m : ℕ) : Type 0 where
  pub is : b ≡ true → (0 < n) × (n < m) × (bit_and f r ≢ 0)
  pub not : b ≡ false → 0 < n → n < m → bit_and f r ≡ 0

-- some slot with a smaller number has an edge to e
pub record CanParent (F R O : List ℕ) (e : ℕ) : Type 0 where
  pub grid : Grid F R
  pub orders : length O ≡ slots
  pub slot : e < slots
  pub some : (p : ℕ) × Seen O p × (at O p < at O e) × Edge F R p e

-- p is one
pub record Parent (F R O : List ℕ) (e p : ℕ) : Type 0 where
  pub slot : p < slots
  pub numbered : Seen O p
  pub before : at O p < at O e
  pub edge : Edge F R p e

-- ---- `carry`

pub record CanCarry (F R O : List ℕ) (x e : ℕ) : Type 0 where
  pub grid : Grid F R
  pub numbered : Numbered F R O x
  pub slot : e < slots
  pub later : 1 < at O e

-- a ration went along a chain of numbered slots
pub record Carried (F R O F' R' : List ℕ) (x e : ℕ) : Type 0 where
  pub path : Path F R F' R' x e
  pub kept : (t : ℕ) → at O t ≡ 0 → (at F' t ≡ at F t) × (at R' t ≡ at R t)
  pub closed : (Q : List ℕ) → ((t : ℕ) → Seen Q t → at O t ≡ 0) → Closed F R Q → Closed F' R' Q
