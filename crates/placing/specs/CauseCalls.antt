-- A cause as code has it, the enum `Cause`: its number and its slots as request 105 gives them, for each case; and what
-- the functions that find it ensure. F and R are the grid, H the highs and C the spares, as in Represents.antt.
-- Definitions only. Assumes nothing.
use Rattle.std.specs.Prelude.{◌≡◌, Bool, true, false, cond, List, ℕ, suc, ◌+◌, ◌-◌, ◌<◌, eqb, ltb, Result, Ok, Err}
use Rattle.common.specs.Bits.{bit}
use Rattle.schedules.specs.Slots.{Slots}
use Rattle.schedules.specs.Schedules.{Demand, feasible}
use Rattle.schedules.specs.Causes.{Obstacle, obstacle}
use Rattle.schedules.specs.Tabulate.{tab}
use Rattle.placing.specs.declared.Cause.{Cause}
use Rattle.placing.specs.declared.Cause.TheVariants.{LowAboveHigh, Shortfall, Excess}
use Rattle.placing.specs.Represents.{Represents, lowered, raised, Idled, Busied, marks_of}

-- slot t + 1 is in the set of two words: bit t of the first, or bit t − 64 of the second
abbrev pub in_words : (a b t : ℕ) → Bool
in_words a b t = eqb (cond (ltb t 64) (bit a t) (bit b (t - 64))) 1

-- the number of each case
abbrev pub number_of : Cause → ℕ
number_of (LowAboveHigh t) = 3
number_of (Shortfall a b) = 1
number_of (Excess a b) = 2

-- slot t + 1 is one of its slots
abbrev pub in_cause : Cause → ℕ → Bool
in_cause (LowAboveHigh u) t = eqb (suc t) u
in_cause (Shortfall a b) t = in_words a b t
in_cause (Excess a b) t = in_words a b t

-- its slots, in a day of so many
abbrev pub slots_of : (slots : ℕ) → Cause → Slots
slots_of slots c = tab slots (in_cause c)

-- number and slots
abbrev pub obstacle_of : (slots : ℕ) → Cause → Obstacle
obstacle_of slots c = record { number = number_of c; set = slots_of slots c }

-- the word w has the n marks from place `from` on
pub record MarkWord (w : ℕ) (S : List ℕ) (from n : ℕ) : Type 0 where
  pub marks : (i : ℕ) → i < n → eqb (bit w i) 1 ≡ marks_of S (from + i)

-- the cause has this number, and the marked slots
pub record OfMarks (r : Cause) (number : ℕ) (S : List ℕ) : Type 0 where
  pub is : number_of r ≡ number
  pub slots : (t : ℕ) → t < 96 → in_cause r t ≡ marks_of S t

-- r is why the high of slot t, counted from 0, can't be at most k − 1, where it can't
abbrev pub IdleCaused : Cause → (F R H C : List ℕ) (t k : ℕ) → Type 0
IdleCaused r F R H C t k =
    (slots : ℕ) (ds : List Demand) (low high : List ℕ) → Represents slots ds low high F R H C → t < slots
    → feasible slots ds low (lowered high t k) ≡ false → obstacle_of slots r ≡ obstacle slots ds low (lowered high t k)

-- the same of its low, at least k
abbrev pub BusyCaused : Cause → (F R H C : List ℕ) (t k : ℕ) → Type 0
BusyCaused r F R H C t k =
    (slots : ℕ) (ds : List Demand) (low high : List ℕ) → Represents slots ds low high F R H C → t < slots
    → feasible slots ds (raised low t k) high ≡ false → obstacle_of slots r ≡ obstacle slots ds (raised low t k) high

-- what an answer says: the bound is kept from now on; and what holds of the cause against it, where it is not
abbrev pub is_yes : Result (Unit {0}) Cause → Bool
is_yes (Ok _) = true
is_yes (Err c) = false

abbrev pub WithCause : Result (Unit {0}) Cause → (Cause → Type 0) → Type 0
WithCause (Ok _) P = Unit {0}
WithCause (Err c) P = P c

-- `idle_or_cause` and `busy_or_cause` answer as `idle` and `busy`, and a refusal says why
pub record IdleAnswered (r : Result (Unit {0}) Cause) (F R H C F' R' H' : List ℕ) (t k : ℕ) : Type 0 where
  pub idled : Idled (is_yes r) F R H C F' R' H' t k
  pub why : WithCause r (λ c. IdleCaused c F R H C t k)

pub record BusyAnswered (r : Result (Unit {0}) Cause) (F R H C F' R' C' : List ℕ) (t k : ℕ) : Type 0 where
  pub busied : Busied (is_yes r) F R H C F' R' C' t k
  pub why : WithCause r (λ c. BusyCaused c F R H C t k)
