-- Rates, the charge of a day and its cents, by request 103. Definitions only. Assumes nothing.
-- A charge is in tenths of a cent, and is defined from stretches as the listing gives them.
use Rattle.std.specs.Prelude.{cond, List, [], ◌∷◌, ◌++◌, map, ℕ, suc, ◌+◌, ◌-◌, ◌*◌, ◌/◌, ◌%◌, eqb, get_or, replicate}
use Rattle.common.specs.Lists.{range, sum}
use Rattle.energy.specs.Energy.{listed_for, start_at}
use Rattle.energy.specs.Listed.{ListedStretch}
use Rattle.bill.specs.declared.Amount.{Amount}

-- Rates ------------------------------------------------------------------------

-- tenths of a cent per energy unit, for the hours 0 to 23: hours 0 to 5 at 18, 6 to 8 at 31, 9 to 16 at 24, 17 to 20 at 36, 21 to 23 at 22
unfoldable pub rates : List ℕ
rates = replicate 6 18 ++ replicate 3 31 ++ replicate 8 24 ++ replicate 4 36 ++ replicate 3 22

-- the hour of a slot: hour h covers the slots 4 × h + 1 to 4 × h + 4
unfoldable pub hour_of : (slot : ℕ) → ℕ
hour_of t = (t - 1) / 4

unfoldable pub rate_of : (slot : ℕ) → ℕ
rate_of t = get_or rates (hour_of t) 0

-- One blower -------------------------------------------------------------------

-- how many slots a stretch has
abbrev pub extent : ListedStretch → ℕ
extent s = suc s.last - s.first

-- an on slot costs its hour's rate
unfoldable pub on_rate : (state slot : ℕ) → ℕ
on_rate x t = cond (eqb x 0) 0 (rate_of t)

unfoldable pub on_charge : ListedStretch → ℕ
on_charge s = sum (map (on_rate s.state) (range s.first (extent s)))

-- a start costs q times the rate of its first on slot, which is its stretch's first
unfoldable pub start_charge : (wake before : ℕ) → ListedStretch → ℕ
start_charge q before s = start_at before s.state * (q * rate_of s.first)

-- the charge of stretches one after another, after the state before them
unfoldable pub charge_from : (wake before : ℕ) → List ListedStretch → ℕ
charge_from q before [] = 0
charge_from q before (s ∷ ss) = on_charge s + start_charge q before s + charge_from q s.state ss

-- the charge of a blower with these stretches: blowers are off before slot 1
unfoldable pub blower_charge : (wake : ℕ) → List ListedStretch → ℕ
blower_charge q ss = charge_from q 0 ss

-- All blowers ------------------------------------------------------------------

-- the day's charge: what m blowers with these counts cost
unfoldable pub charge : ℕ → ℕ → List ℕ → ℕ
charge m q counts = sum (map (λ k. blower_charge q (listed_for q counts k)) (range 1 m))

-- Cents ------------------------------------------------------------------------

-- whole cents, halves upward
unfoldable pub cents_of : (tenths : ℕ) → ℕ
cents_of x = (x + 5) / 10

-- whole hundreds of cents, and the remaining cents
unfoldable pub amount_of : (tenths : ℕ) → Amount
amount_of x = record { hundreds = cents_of x / 100; remaining = cents_of x % 100 }
