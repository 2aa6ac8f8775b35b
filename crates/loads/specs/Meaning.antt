-- What a grid in words means: a placing of n rations in d slots, as a function of ration and slot, within lows and highs. Rations and slots are
-- counted from 0. These are definitions.
use Rattle.std.specs.Prelude.{◌≡◌, Bool, cond, List, ℕ, ◌+◌, ◌^◌, ◌≤◌, ◌<◌, eqb, ltb, length}
use Rattle.loads.specs.Theory.{one, count}
use Rattle.common.specs.Bits.{bit}
use Rattle.grid.specs.Grid.{slots, at, volume, Grid}
use Rattle.loads.specs.Relief.{Within}
use Rattle.loads.specs.First.{rations}

-- ration j is fed in slot t, or rests there, by the words of one of the two
unfoldable pub bit_at : List ℕ → ℕ → ℕ → Bool
bit_at F j t = eqb (bit (at F t) j) 1

-- slot t is marked
unfoldable pub seen_at : List ℕ → ℕ → Bool
seen_at S t = ltb 0 (at S t)

-- the words are those of n rations in d slots with the windows `free`: a ration is fed or rests in a slot exactly where its window has the slot
pub record Day (n d : ℕ) (free : ℕ → ℕ → Bool) (F R : List ℕ) : Type 0 where
  pub grid : Grid F R
  pub short : d ≤ slots
  pub few : (t : ℕ) → at F t + at R t < 2 ^ n
  pub past : (t : ℕ) → d ≤ t → at F t + at R t ≡ 0
  pub windows : (j t : ℕ) → j < n → t < d → one (free j t) ≡ bit (at F t) j + bit (at R t) j

-- and each ration j is fed in v j slots
pub record Places (n d : ℕ) (free : ℕ → ℕ → Bool) (v : ℕ → ℕ) (F R : List ℕ) : Type 0 where
  pub day : Day n d free F R
  pub volumes : (j : ℕ) → j < n → volume F j ≡ v j

-- and each slot's load is from its low to its high. H holds the highs, and C what may rest in each slot: its width less its low
pub record State (n d : ℕ) (free : ℕ → ℕ → Bool) (v low high : ℕ → ℕ) (F R H C : List ℕ) : Type 0 where
  pub places : Places n d free v F R
  pub highs : length H ≡ slots
  pub high_at : (t : ℕ) → t < d → at H t ≡ high t
  pub fed_within : Within F H
  pub spares : length C ≡ slots
  pub spare_at : (t : ℕ) → t < d → at C t + low t ≡ count n free t
  pub rest_within : Within R C

-- the bounds f with x in slot t
abbrev pub put : (ℕ → ℕ) → ℕ → ℕ → ℕ → ℕ
put f t x u = cond (eqb u t) x (f u)

-- the words W are the windows `free` of n rations in d slots, and the bytes N their volumes v
pub record Given (n d : ℕ) (free : ℕ → ℕ → Bool) (v : ℕ → ℕ) (W N : List ℕ) : Type 0 where
  pub long : length W ≡ slots
  pub short : d ≤ slots
  pub most : n ≤ rations
  pub few : (t : ℕ) → at W t < 2 ^ n
  pub past : (t : ℕ) → d ≤ t → at W t ≡ 0
  pub window : (j t : ℕ) → j < n → t < d → one (free j t) ≡ bit (at W t) j
  pub volume_at_lem : (j : ℕ) → j < n → at N j ≡ v j
  pub no_volume : (j : ℕ) → n ≤ j → j < rations → at N j ≡ 0
