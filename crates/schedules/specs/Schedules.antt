-- Placings, and which of them are sound under a low and a high for each slot. Definitions only. Assumes nothing.
-- A window may be any set of slots and a volume may be 0: only the sheet knows more of them.
use Rattle.std.specs.Prelude.{◌≡◌, Bool, true, false, ◌&&◌, List, [], ◌∷◌, ◌++◌, map, ℕ, zero, suc, ◌≤◌, ◌<◌, leb, length, get_or, replicate}
use Rattle.common.specs.Lists.{count, every, any, flat_map, zip_with}
use Rattle.schedules.specs.Slots.{Slots, has}

-- What is asked of the day: so many distinct slots, all in the window. A ration, or what is left of one.
pub record Demand : Type 0 where
  pub window : Slots  -- E, the execution interval
  pub volume : ℕ

-- A schedule (placing): for each demand, in sheet order, the set of slots in which it is fed.
abbrev pub Schedule : Type 0
Schedule = List Slots

-- The load of each slot: the number of its feedings.
abbrev pub one_more : Bool → ℕ → ℕ
one_more true n = suc n
one_more false n = n

unfoldable pub load : ℕ → Schedule → List ℕ
load slots [] = replicate slots 0
load slots (c ∷ p) = zip_with one_more c (load slots p)

-- Sound, as document 01 says it -----------------------------------------------

-- demand j + 1 of the list: its window and its volume
abbrev pub no_demand : Demand
no_demand = record { window = []; volume = 0 }

abbrev pub window_of : List Demand → ℕ → Slots
window_of ds j = (get_or ds j no_demand).window

abbrev pub volume_of : List Demand → ℕ → ℕ
volume_of ds j = (get_or ds j no_demand).volume

-- c is a set of exactly `volume` distinct slots, all in the window
pub record Chosen (window : Slots) (volume : ℕ) (c : Slots) : Type 0 where
  pub same_day : length c ≡ length window
  pub exactly : count c ≡ volume
  pub in_window : (t : ℕ) → has c t ≡ true → has window t ≡ true

-- p is sound under low and high: each demand has exactly its volume of distinct slots, all in its window, and every slot t holds from
-- low(t) to high(t) feedings
pub record Sound (slots : ℕ) (ds : List Demand) (low high : List ℕ) (p : Schedule) : Type 0 where
  pub for_each : length p ≡ length ds
  pub served : (j : ℕ) → j < length ds → Chosen (window_of ds j) (volume_of ds j) (get_or p j [])
  pub bounded : (t : ℕ) → t < slots → (get_or low t 0 ≤ get_or (load slots p) t 0) × (get_or (load slots p) t 0 ≤ get_or high t 0)

-- each window says of each of the day's slots whether it is in it
pub record Windows (slots : ℕ) (ds : List Demand) : Type 0 where
  pub all_day : (j : ℕ) → j < length ds → length (window_of ds j) ≡ slots

-- in every slot the first bound is at most the second
abbrev pub AtMost : ℕ → List ℕ → List ℕ → Type 0
AtMost slots xs ys = (t : ℕ) → t < slots → get_or xs t 0 ≤ get_or ys t 0

-- Whether a sound placing exists, by enumeration ------------------------------

-- all sets of exactly n slots of a window
unfoldable pub choices : Slots → ℕ → List Slots
choices [] zero = [] ∷ []
choices [] (suc n) = []
choices (false ∷ e) n = map (λ c. false ∷ c) (choices e n)
choices (true ∷ e) zero = map (λ c. false ∷ c) (choices e zero)
choices (true ∷ e) (suc n) = map (λ c. true ∷ c) (choices e n) ++ map (λ c. false ∷ c) (choices e (suc n))

-- all placings that give each demand exactly its volume of slots of its window
unfoldable pub schedules : List Demand → List Schedule
schedules [] = [] ∷ []
schedules (d ∷ ds) = flat_map (λ c. map (λ p. c ∷ p) (schedules ds)) (choices d.window d.volume)

-- each number of the first list is at most its neighbour in the second
unfoldable pub at_most : List ℕ → List ℕ → Bool
at_most xs ys = every (zip_with leb xs ys)

-- loads that lie from low to high
unfoldable pub within : List ℕ → List ℕ → List ℕ → Bool
within low high loads = at_most low loads && at_most loads high

-- a sound placing exists
unfoldable pub feasible : (slots : ℕ) → List Demand → (low high : List ℕ) → Bool
feasible slots ds low high = any (λ p. within low high (load slots p)) (schedules ds)
