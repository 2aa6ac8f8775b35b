-- What bringing the loads down to the highs requires and ensures. F and R are the grid, H the highs, S the marks; with
-- a stroke, as they are afterwards. These are definitions.
use Rattle.std.specs.Prelude.{◌≡◌, ◌⊎◌, Bool, true, false, List, ℕ, ◌+◌, ◌-◌, ◌≤◌, ◌<◌, min, max, length, set, replicate}
use Rattle.grid.specs.Grid.{slots, at, load, Seen, Closed, Reach, Grid, Rearranged}
use Rattle.grid.specs.Search.{Same}

-- slot t holds more than its high
abbrev pub Over : List ℕ → List ℕ → ℕ → Type 0
Over F H t = at H t < load F t

-- no slot holds more than its high
abbrev pub Within : List ℕ → List ℕ → Type 0
Within F H = (t : ℕ) → load F t ≤ at H t

-- every load went towards its high, and none past it
abbrev pub Towards : List ℕ → List ℕ → List ℕ → Type 0
Towards F H F' = (t : ℕ) → (min (load F t) (at H t) ≤ load F' t) × (load F' t ≤ max (load F t) (at H t))

-- the marked slots are reached from marked slots that hold too much, no edge leaves them, and all of them are full: no
-- search from one of them comes to a slot with room
pub record Stuck (F R H S : List ℕ) : Type 0 where
  pub marks : length S ≡ slots
  pub closed : Closed F R S
  pub full : (t : ℕ) → Seen S t → at H t ≤ load F t
  pub source : (t : ℕ) → Seen S t → (s : ℕ) × Seen S s × Over F H s × Reach F R s t

-- the marked slots are those reached from the slots that hold too much, of which there are some; no edge leaves them,
-- and all of them are full
pub record Held (F R H S : List ℕ) : Type 0 where
  pub stuck : Stuck F R H S
  pub over : (t : ℕ) → Over F H t → Seen S t
  pub some : (t : ℕ) × Over F H t

-- what `unload` requires
pub record CanUnload (F R H S : List ℕ) (t : ℕ) : Type 0 where
  pub grid : Grid F R
  pub highs : length H ≡ slots
  pub slot : t < slots
  pub stuck : Stuck F R H S

-- slot t holds no more than its high now, or is marked
pub record Unloaded (r : Bool) (F R H S F' R' S' : List ℕ) (t : ℕ) : Type 0 where
  pub moved : Rearranged F R F' R'
  pub towards : Towards F H F'
  pub stuck : Stuck F' R' H S'
  pub grow : (u : ℕ) → Seen S u → Seen S' u
  pub kept : (u : ℕ) → Seen S u → at F' u ≡ at F u
  pub done : r ≡ true → load F' t ≤ at H t
  pub left : r ≡ false → Seen S' t × Over F' H t

-- what `relieve` requires
pub record CanRelieve (F R H : List ℕ) : Type 0 where
  pub grid : Grid F R
  pub highs : length H ≡ slots

-- all loads are within the highs, or the marks show why no placing of these rations can have that
pub record Relieved (r : Bool) (F R H F' R' S' : List ℕ) : Type 0 where
  pub moved : Rearranged F R F' R'
  pub towards : Towards F H F'
  pub done : r ≡ true → Within F' H
  pub held : r ≡ false → Held F' R' H S'

-- what `lower` requires
pub record CanLower (F R H : List ℕ) (t : ℕ) : Type 0 where
  pub grid : Grid F R
  pub highs : length H ≡ slots
  pub slot : t < slots
  pub within : Within F H

-- the high of slot t is h now, and all loads are within the highs; or the highs are as before, and the marks show why
-- slot t can't have that
pub record Lowered (r : Bool) (F R H F' R' H' S' : List ℕ) (t h : ℕ) : Type 0 where
  pub moved : Rearranged F R F' R'
  pub towards : Towards F (set H t h) F'
  pub done : r ≡ true → (H' ≡ set H t h) × Within F' H'
  pub held : r ≡ false → (H' ≡ H) × Held F' R' (set H t h) S'

-- how many rations have slot t in their windows
abbrev pub width : List ℕ → List ℕ → ℕ → ℕ
width F R t = load F t + load R t

-- what `raise` ensures, C the spares: where k rations have the slot in their windows, it is `lower` on the exchanged
-- words
pub record Raised (r : Bool) (F R C F' R' C' S' : List ℕ) (t k : ℕ) : Type 0 where
  pub moved : Rearranged F R F' R'
  pub narrow : width F R t < k → (r ≡ false) × Same F R F' R' × (C' ≡ C)
  pub wide : k ≤ width F R t → Lowered r R F C R' F' C' S' t (width F R t - k)

-- what `mark_over` ensures: the highs are as before; the marks show why slot t can't have the high h, or are on slot t
-- alone where it can
pub record OverMarked (F R H F' R' H' S' : List ℕ) (t h : ℕ) : Type 0 where
  pub moved : Rearranged F R F' R'
  pub towards : Towards F (set H t h) F'
  pub highs : H' ≡ H
  pub long : length S' ≡ slots
  pub marked : Held F' R' (set H t h) S' ⊎ (Within F' (set H t h) × (S' ≡ set (replicate slots 0) t 1))

-- what `mark_excess` ensures, C the spares: it is `mark_over` on the exchanged words, with as little at rest in slot t
-- as a low of k leaves
abbrev pub ExcessMarked : (F R C F' R' C' S' : List ℕ) (t k : ℕ) → Type 0
ExcessMarked F R C F' R' C' S' t k = OverMarked R F C R' F' C' S' t (width F R t - k)

-- what `widths` ensures
pub record Widths (F R C : List ℕ) : Type 0 where
  pub long : length C ≡ slots
  pub is : (t : ℕ) → at C t ≡ width F R t
