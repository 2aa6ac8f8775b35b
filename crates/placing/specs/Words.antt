-- Windows in words and volumes in bytes, as the search takes them: bit j of word t says that slot t is in the window of
-- demand j. Rations and slots are counted from 0. Definitions only. Assumes nothing.
use Rattle.std.specs.Prelude.{◌≡◌, Bool, ◌&&◌, List, ℕ, suc, ◌+◌, ◌^◌, ◌≤◌, ◌<◌, leb, length, get_or}
use Rattle.common.specs.Bits.{bit}
use Rattle.checks.specs.Limits.{max_slots, max_rations}
use Rattle.theory.specs.SumsOver.{one, pick}
use Rattle.schedules.specs.Slots.{has}
use Rattle.schedules.specs.Schedules.{Demand, window_of, volume_of}

-- the words of the windows, and no other bit
pub record WindowWords (slots : ℕ) (ds : List Demand) (W : List ℕ) : Type 0 where
  pub long : length W ≡ max_slots
  pub few : (t : ℕ) → get_or W t 0 < 2 ^ length ds
  pub past : (t : ℕ) → slots ≤ t → get_or W t 0 ≡ 0
  pub window : (j t : ℕ) → j < length ds → t < slots → one (has (window_of ds j) t) ≡ bit (get_or W t 0) j

-- the volumes, 0 past the last
pub record VolumeBytes (ds : List Demand) (N : List ℕ) : Type 0 where
  pub long : length N ≡ max_rations
  pub volume : (j : ℕ) → j < length ds → get_or N j 0 ≡ volume_of ds j
  pub past : (j : ℕ) → length ds ≤ j → get_or N j 0 ≡ 0

-- slot t + 1 is from release to deadline
abbrev pub in_window : ℕ → ℕ → ℕ → Bool
in_window release deadline t = leb release (suc t) && leb (suc t) deadline

-- what `mark_window` requires: no word has the bit j or a higher one
pub record CanMark (W : List ℕ) (j release deadline : ℕ) : Type 0 where
  pub long : length W ≡ max_slots
  pub ration : j < max_rations
  pub first : 1 ≤ release
  pub order : release ≤ deadline
  pub last : deadline ≤ max_slots
  pub below : (t : ℕ) → get_or W t 0 < 2 ^ j

-- x more in the slots of a window, and the others as they were
pub record Added (x release deadline : ℕ) (W W' : List ℕ) : Type 0 where
  pub long : length W' ≡ max_slots
  pub words : (t : ℕ) → get_or W' t 0 ≡ get_or W t 0 + pick (in_window release deadline t) x

-- what `mark_window` ensures: the words of the window's slots have the bit j
abbrev pub Marked : (j release deadline : ℕ) (W W' : List ℕ) → Type 0
Marked j = Added (2 ^ j)
