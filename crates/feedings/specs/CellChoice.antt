-- Deciding one cell: whether ration j is fed in slot t, all choices made before kept. F and R are the grid of what is left, H has the load of each
-- slot; with a stroke, as they are afterwards. Rations and slots are counted from 0. Definitions only. Assumes nothing.
use Rattle.std.specs.Prelude.{◌≡◌, ◌≢◌, Bool, true, false, List, ℕ, suc, ◌-◌, ◌^◌, ◌≤◌, ◌<◌, length}
use Rattle.theory.specs.SumsOver.{one}
use Rattle.theory.specs.Placing.{count, Placing}
use Rattle.theory.specs.Move.{upd}
use Rattle.common.specs.Bits.{bit}
use Rattle.std.specs.Int.Bits.{bit_and}
use Rattle.grid.specs.Grid.{slots, at, load, Seen, Edge, Closed, Grid}
use Rattle.loads.specs.Relief.{Within}
use Rattle.loads.specs.First.{rations}
use Rattle.loads.specs.Meaning.{Places, put}
use Rattle.schedules.specs.Schedules.{Schedule}
use Rattle.schedules.specs.AsFunctions.{fed}

-- one less at i
abbrev pub one_less : (ℕ → ℕ) → ℕ → ℕ → ℕ
one_less f i = put f i (f i - 1)

-- the words hold a placing of n rations in d slots with the windows `free`, the volumes v and exactly the loads c
pub record Exactly (n d : ℕ) (free : ℕ → ℕ → Bool) (v c : ℕ → ℕ) (F R H : List ℕ) : Type 0 where
  pub places : Places n d free v F R
  pub loads : (t : ℕ) → t < d → load F t ≡ c t
  pub counts : (t : ℕ) → t < d → at H t ≡ c t

-- what a choice requires of the words: that they are some day's
pub record Feedable (F R H : List ℕ) : Type 0 where
  pub grid : Grid F R
  pub counts : length H ≡ slots
  pub within : Within F H

pub record CanFeed (F R H : List ℕ) (t j : ℕ) : Type 0 where
  pub words : Feedable F R H
  pub slot : t < slots
  pub ration : j < rations

-- `feed` answers whether some placing with the same windows, volumes and loads feeds ration j in slot t. It leaves a placing of what is left then: the
-- cell is in no window any more, and if it is fed, volume and load are one less.
pub record Decided (r : Bool) (F R H F' R' H' : List ℕ) (t j : ℕ) : Type 0 where
  pub words : Feedable F' R' H'
  pub yes : r ≡ true → (n d : ℕ) (free : ℕ → ℕ → Bool) (v c : ℕ → ℕ) → Exactly n d free v c F R H → j < n → t < d
      → (free j t ≡ true) × (0 < v j) × (0 < c t) × Exactly n d (upd free j t false) (one_less v j) (one_less c t) F' R' H'
  pub no : r ≡ false → (n d : ℕ) (free : ℕ → ℕ → Bool) (v c : ℕ → ℕ) → Exactly n d free v c F R H → j < n → t < d
      → Exactly n d (upd free j t false) v c F' R' H'
  pub none : r ≡ false → (n d : ℕ) (free : ℕ → ℕ → Bool) (v c : ℕ → ℕ) → Exactly n d free v c F R H → j < n → t < d
      → (T : ℕ → ℕ → Bool) → Placing n d free v T → ((u : ℕ) → u < d → count n T u ≤ c u) → T j t ≡ false

-- only rations of the word w can be fed in slot t: t is one of a set of slots in which no others are fed, and no ration that is fed in the set rests outside it
pub record MayFeed (w t : ℕ) (F R : List ℕ) : Type 0 where
  pub marks : List ℕ
  pub has : Seen marks t
  pub closed : Closed F R marks
  pub covers : (u k : ℕ) → Seen marks u → bit (at F u) k ≡ 1 → bit w k ≡ 1

-- The steps of `feed` ---------------------------------------------------------

-- the word r has the rations of w, and those of f if there is a mark
pub record AddMarked (r w f mark : ℕ) : Type 0 where
  pub old : (k : ℕ) → bit w k ≡ 1 → bit r k ≡ 1
  pub new : 0 < mark → (k : ℕ) → bit f k ≡ 1 → bit r k ≡ 1

-- the word w has the rations that are fed in the marked slots
pub record FedMarked (w : ℕ) (F S : List ℕ) : Type 0 where
  pub covers : (u k : ℕ) → Seen S u → bit (at F u) k ≡ 1 → bit w k ≡ 1

-- what `first_fed` requires and ensures: the first slot in which ration j is fed, or the number of slots where there is none
pub record CanFind (F : List ℕ) (j : ℕ) : Type 0 where
  pub words : length F ≡ slots
  pub ration : j < rations

pub record FirstFed (r : ℕ) (F : List ℕ) (j : ℕ) : Type 0 where
  pub within : r ≤ slots
  pub found : r < slots → bit (at F r) j ≡ 1
  pub before : (u : ℕ) → u < r → bit (at F u) j ≡ 0

-- ration j is not fed in slot t; its cell is in no window any more
pub record CanAsk (F R H : List ℕ) (t j : ℕ) : Type 0 where
  pub feed : CanFeed F R H t j
  pub away : bit (at F t) j ≡ 0

-- a slot with the words f and r feeds ration j, and a ration of the word w rests in it
pub record IsPartner (b : Bool) (w f r j : ℕ) : Type 0 where
  pub has : b ≡ true → bit f j ≡ 1
  pub edge : b ≡ true → bit_and w r ≢ 0

-- slot z, if it is one, feeds ration j, and a ration of slot t rests in it
pub record Partner (z : ℕ) (F R : List ℕ) (t j : ℕ) : Type 0 where
  pub has : z < slots → bit (at F z) j ≡ 1
  pub edge : z < slots → Edge F R t z

-- and it is fed in slot z, and slot t feeds some ration
pub record CanReplace (F R H : List ℕ) (t j z : ℕ) : Type 0 where
  pub ask : CanAsk F R H t j
  pub some : 0 < at H t
  pub from : z < slots
  pub has : bit (at F z) j ≡ 1

-- whether the other cells can have one feeding of ration j less and slot t one less; if so, the words are such a placing, and else they are as before
pub record Answered (r : Bool) (F R H F' R' H' : List ℕ) (t j : ℕ) : Type 0 where
  pub words : Feedable F' R' H'
  pub yes : r ≡ true → (n d : ℕ) (free : ℕ → ℕ → Bool) (v c : ℕ → ℕ) → Exactly n d free v c F R H → j < n → t < d
      → (0 < v j) × (0 < c t) × Exactly n d free (one_less v j) (one_less c t) F' R' H'
  pub no : r ≡ false → (F' ≡ F) × (R' ≡ R) × (H' ≡ H)
  pub none : r ≡ false → (n d : ℕ) (free : ℕ → ℕ → Bool) (v c : ℕ → ℕ) → Exactly n d free v c F R H → j < n → t < d
      → 0 < v j → 0 < c t → (T : ℕ → ℕ → Bool) → Placing n d free (one_less v j) T → ((u : ℕ) → u < d → count n T u ≤ one_less c t u) → ⊥

-- an exchange: slot t can have one less, and the same rations may still be fed in it
pub record Swapped (F R H F' R' H' : List ℕ) (t j : ℕ) : Type 0 where
  pub answer : Answered true F R H F' R' H' t j
  pub may : (w : ℕ) → MayFeed w t F R → MayFeed w t F' R'

-- slot t is marked, and no ration that is fed in a marked slot rests in another
pub record Around (t : ℕ) (F R S : List ℕ) : Type 0 where
  pub marks : length S ≡ slots
  pub has : Seen S t
  pub closed : Closed F R S

-- the answer of a search, and the marks S' that it leaves
pub record Replaced (r : Bool) (F R H F' R' H' S' : List ℕ) (t j : ℕ) : Type 0 where
  pub answer : Answered r F R H F' R' H' t j
  pub around : Around t F' R' S'

-- Words that hold the choices -------------------------------------------------

-- the word w holds which of n rations are fed in a slot: bit i is 1 where s i, and no other bit is
pub record RowWord (n w : ℕ) (s : ℕ → Bool) : Type 0 where
  pub few : w < 2 ^ n
  pub bits : (i : ℕ) → i < n → bit w i ≡ one (s i)

-- the words W hold the placing p of n rations in d slots
pub record ScheduleWords (n d : ℕ) (p : Schedule) (W : List ℕ) : Type 0 where
  pub long : length W ≡ slots
  pub rows : (t : ℕ) → t < d → RowWord n (at W t) (λ j. fed p j t)
  pub past : (t : ℕ) → d ≤ t → at W t ≡ 0

-- what `feed_bit` requires of the word w of the choices made in slot t, and of the word m of the rations that may be fed in it
pub record CanFeedBit (w m : ℕ) (F R H : List ℕ) (t j : ℕ) : Type 0 where
  pub feed : CanFeed F R H t j
  pub new : w < 2 ^ j
  pub may : MayFeed m t F R

-- it gives w with the answer as bit j
pub record FedBit (w r m' : ℕ) (F R H F' R' H' : List ℕ) (t j : ℕ) : Type 0 where
  pub answer : Bool
  pub may : MayFeed m' t F' R'
  pub decided : Decided answer F R H F' R' H' t j
  pub few : r < 2 ^ suc j
  pub row : (s : ℕ → Bool) → s j ≡ answer → RowWord j w s → RowWord (suc j) r s
