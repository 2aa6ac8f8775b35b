-- The rest of a day whose slots before a slot c are fixed: what is left of each demand, and the highs from slot c on.
-- Slot t + 1 is place t. Definitions only. Assumes nothing.
use Rattle.std.specs.Prelude.{◌≡◌, true, false, ◌&&◌, ◌||◌, cond, List, [], ℕ, suc, ◌-◌, ◌≤◌, ◌<◌, leb, length, get_or}
use Rattle.common.specs.Lists.{count}
use Rattle.schedules.specs.Slots.{Slots, has}
use Rattle.schedules.specs.Schedules.{Demand, Schedule, no_demand, window_of, volume_of, load}
use Rattle.schedules.specs.Tabulate.{tab}
use Rattle.schedules.specs.AsFunctions.{fed, listed}

-- the part of a window from slot c on, and what is left of a volume of which some slots were fed
abbrev pub rest_of : (slots c : ℕ) → Demand → (kept : Slots) → Demand
rest_of slots c d kept = record { window = tab slots (λ t. leb c (suc t) && has d.window t); volume = d.volume - count kept }

-- of each demand, where the feedings before slot c are these
unfoldable pub rest_demands : (slots c : ℕ) → List Demand → (kept : Schedule) → List Demand
rest_demands slots c ds kept = tab (length ds) (λ j. rest_of slots c (get_or ds j no_demand) (get_or kept j []))

-- the highs from slot c on, 0 before it
unfoldable pub rest_high : (slots c : ℕ) (high : List ℕ) → List ℕ
rest_high slots c high = tab slots (λ t. cond (leb c (suc t)) (get_or high t 0) 0)

-- Feedings that may be kept: all before slot c, in the windows, no more than the volumes, and no more in a slot than
-- its high.
pub record KeptBefore (slots c : ℕ) (ds : List Demand) (high : List ℕ) (kept : Schedule) : Type 0 where
  pub for_each : length kept ≡ length ds
  pub rows : (j : ℕ) → j < length ds → length (get_or kept j []) ≡ slots
  pub before : (j t : ℕ) → fed kept j t ≡ true → suc t < c
  pub in_window : (j t : ℕ) → j < length ds → fed kept j t ≡ true → has (window_of ds j) t ≡ true
  pub in_volume : (j : ℕ) → j < length ds → count (get_or kept j []) ≤ volume_of ds j
  pub in_slot : (t : ℕ) → t < slots → get_or (load slots kept) t 0 ≤ get_or high t 0

-- a placing contains the kept feedings and no others before slot c
abbrev pub SameBefore : (slots c rations : ℕ) (kept p : Schedule) → Type 0
SameBefore slots c rations kept p = (j t : ℕ) → j < rations → t < slots → suc t < c → fed p j t ≡ fed kept j t

-- the kept feedings and those of the rest together
unfoldable pub together : (slots rations : ℕ) (kept rest : Schedule) → Schedule
together slots rations kept rest = listed rations slots (λ j t. fed kept j t || fed rest j t)

-- no feeding at all
unfoldable pub no_feedings : (slots rations : ℕ) → Schedule
no_feedings slots rations = listed rations slots (λ j t. false)
