-- What the first placing, and one with other volumes, require and ensure. W holds the windows, a word for each slot, N
-- the volumes. These are definitions.
use Rattle.std.specs.Prelude.{◌≡◌, ◌≢◌, ◌⊎◌, List, ℕ, ◌+◌, ◌^◌, ◌≤◌, ◌<◌, length}
use Rattle.common.specs.Bits.{bit}
use Rattle.grid.specs.Grid.{slots, at, load, volume, Grid}

-- the rations of a grid: a smaller sheet leaves the last bits 0
abbrev pub rations : ℕ
rations = 64

-- ration j is fed in k slots of its window more, and every other ration as often as before; in which slots is not said
pub record Fed (j k : ℕ) (F R F' R' : List ℕ) : Type 0 where
  pub grid : Grid F' R'
  pub words : (t : ℕ) → at F' t + at R' t ≡ at F t + at R t
  pub bits : (i t : ℕ) → bit (at F' t) i + bit (at R' t) i ≡ bit (at F t) i + bit (at R t) i
  pub more : volume F' j ≡ volume F j + k
  pub others : (i : ℕ) → i ≢ j → volume F' i ≡ volume F i

-- ration j is not at rest in slot t, or the slot has no room below h
abbrev pub Tried : ℕ → ℕ → List ℕ → List ℕ → ℕ → Type 0
Tried j h F R t = (bit (at R t) j ≡ 0) ⊎ (h ≤ load F t)

pub record CanFeed (F R : List ℕ) (j t : ℕ) : Type 0 where
  pub grid : Grid F R
  pub ration : j < rations
  pub slot : t < slots

-- what `feed_slot` ensures: of `left` feedings, `left'` are still to be made
pub record FedSlot (j h left left' : ℕ) (F R F' R' : List ℕ) (t : ℕ) : Type 0 where
  pub made : ℕ
  pub counted : made + left' ≡ left
  pub fed : Fed j made F R F' R'
  pub tried : 0 < left' → Tried j h F' R' t
  pub kept : (u : ℕ) → u ≢ t → (at F' u ≡ at F u) × (at R' u ≡ at R u)

pub record CanPass (F R H : List ℕ) (j : ℕ) : Type 0 where
  pub grid : Grid F R
  pub highs : length H ≡ slots
  pub ration : j < rations

-- what `feed_pass` ensures
pub record FedPass (j left left' : ℕ) (F R H F' R' : List ℕ) : Type 0 where
  pub made : ℕ
  pub counted : made + left' ≡ left
  pub fed : Fed j made F R F' R'
  pub tried : 0 < left' → (t : ℕ) → t < slots → Tried j (at H t) F' R' t

-- what `feed_ration` requires: ration j rests in at least as many slots as it is to be fed in
pub record CanPlace (F R H : List ℕ) (j more : ℕ) : Type 0 where
  pub pass : CanPass F R H j
  pub few : (t : ℕ) → at F t + at R t < 2 ^ rations
  pub fits : more ≤ volume R j

-- what `set_volume` requires: ration j is fed in `old` slots, and its window has at least `new`
pub record CanSet (F R H : List ℕ) (j old new : ℕ) : Type 0 where
  pub pass : CanPass F R H j
  pub few : (t : ℕ) → at F t + at R t < 2 ^ rations
  pub volume_is : volume F j ≡ old
  pub fits : new ≤ volume F j + volume R j

-- what it ensures: ration j is fed in `new` slots of its window; all other rations are fed as often as before
pub record FedIn (j new : ℕ) (F R F' R' : List ℕ) : Type 0 where
  pub grid : Grid F' R'
  pub words : (t : ℕ) → at F' t + at R' t ≡ at F t + at R t
  pub bits : (i t : ℕ) → bit (at F' t) i + bit (at R' t) i ≡ bit (at F t) i + bit (at R t) i
  pub volume_is : volume F' j ≡ new
  pub others : (i : ℕ) → i ≢ j → volume F' i ≡ volume F i

-- what `place_again` requires: the rations are fed as often as N says, and each window has at least as many slots as N'
-- says
pub record CanPlaceAgain (F R H N N' : List ℕ) : Type 0 where
  pub grid : Grid F R
  pub highs : length H ≡ slots
  pub few : (t : ℕ) → at F t + at R t < 2 ^ rations
  pub volumes : (j : ℕ) → j < rations → volume F j ≡ at N j
  pub fits : (j : ℕ) → j < rations → at N' j ≤ volume F j + volume R j

-- what it ensures: they are fed as often as N' says, in the same windows
pub record PlacedAgain (N' F R F' R' : List ℕ) : Type 0 where
  pub grid : Grid F' R'
  pub words : (t : ℕ) → at F' t + at R' t ≡ at F t + at R t
  pub bits : (i t : ℕ) → bit (at F' t) i + bit (at R' t) i ≡ bit (at F t) i + bit (at R t) i
  pub volumes : (j : ℕ) → j < rations → volume F' j ≡ at N' j

-- what `place_first` requires: each window has at least as many slots as its ration's volume
pub record CanStart (W N H : List ℕ) : Type 0 where
  pub windows : length W ≡ slots
  pub highs : length H ≡ slots
  pub few : (t : ℕ) → at W t < 2 ^ rations
  pub fits : (j : ℕ) → j < rations → at N j ≤ volume W j

-- what `place_first` ensures: each ration is fed in as many slots of its window as its volume, and rests in the others
pub record Started (W N F R : List ℕ) : Type 0 where
  pub grid : Grid F R
  pub words : (t : ℕ) → at F t + at R t ≡ at W t
  pub bits : (j t : ℕ) → bit (at F t) j + bit (at R t) j ≡ bit (at W t) j
  pub volumes : (j : ℕ) → j < rations → volume F j ≡ at N j
