-- The stretches of a blower: its busy and idle intervals. Definitions only. Assumes nothing.
use Rattle.std.specs.Prelude.{◌≡◌, Bool, not, cond, List, [], ◌∷◌, map, ℕ, suc, ◌-◌, ◌≤◌, ◌<◌, leb, get_or}
use Rattle.std.specs.Bool.{beq}

-- A stretch of one blower: its first and last slot, and whether it is busy throughout or idle throughout.
pub record Interval : Type 0 where
  pub first : ℕ
  pub last : ℕ
  pub busy : Bool

-- slot t before stretches that begin at slot t + 1: one stretch with the first of them, or a new one
unfoldable pub join : ℕ → Bool → List Interval → List Interval
join t b [] = record { first = t; last = t; busy = b } ∷ []
join t b (v ∷ vs) =
    cond (beq b v.busy)
    (record { first = t; last = v.last; busy = b } ∷ vs)
    (record { first = t; last = t; busy = b } ∷ v ∷ vs)

-- the longest runs of a list that begins at slot t
unfoldable pub runs : ℕ → List Bool → List Interval
runs t [] = []
runs t (b ∷ bs) = join t b (runs (suc t) bs)

-- the stretches of blower k: it is busy in the slots whose count is at least k
unfoldable pub intervals : List ℕ → ℕ → List Interval
intervals counts k = runs 1 (map (leb k) counts)

-- the slots of a stretch
unfoldable pub size : Interval → ℕ
size v = suc v.last - v.first

-- Longest runs, as document 01 says it ----------------------------------------

-- blower k is busy in slot t + 1
abbrev pub busy_in : (counts : List ℕ) (k t : ℕ) → Bool
busy_in counts k t = leb k (get_or counts t 0)

-- every slot of v has the same test; f t is the test of slot t + 1
abbrev pub Throughout : (f : ℕ → Bool) (v : Interval) → Type 0
Throughout f v = (t : ℕ) → v.first ≤ suc t → suc t ≤ v.last → f t ≡ v.busy

-- v is a longest run of slots, among those after slot `from` up to slot `to`, with the same test throughout: the slot before it and the slot after it, where
-- there are such, have the other
pub record LongestRun (f : ℕ → Bool) (to from : ℕ) (v : Interval) : Type 0 where
  pub begins : from < v.first
  pub filled : v.first ≤ v.last
  pub stops : v.last ≤ to
  pub throughout : Throughout f v
  pub before : (t : ℕ) → from ≤ t → suc (suc t) ≡ v.first → f t ≡ not v.busy
  pub after : v.last < to → f v.last ≡ not v.busy
