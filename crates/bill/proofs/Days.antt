-- Days and what they cost, as one table: blowers, wake cost and counts, beside the charge in tenths of a cent, whole hundreds and remaining cents.
-- Assumes nothing.
use Rattle.std.specs.Prelude.{◌≡◌, refl, List, [], ◌∷◌, ◌++◌, map, ℕ, replicate}
use Rattle.method.specs.Intervals.{join, runs, intervals, size}
use Rattle.energy.specs.Energy.{at_end, state, listed, listed_for, start_at}
use Rattle.bill.specs.declared.Amount.{Amount}
use Rattle.bill.specs.Bill.{rates, hour_of, rate_of, on_rate, on_charge, start_charge, charge_from, blower_charge, charge, cents_of, amount_of}

pub record Day : Type 0 where
  pub blowers : ℕ
  pub wake : ℕ
  pub counts : List ℕ
  pub tenths : ℕ
  pub hundreds : ℕ
  pub remaining : ℕ

abbrev day : ℕ → ℕ → List ℕ → ℕ → ℕ → ℕ → Day
day m q counts tenths hundreds remaining = record { blowers = m; wake = q; counts = counts; tenths = tenths; hundreds = hundreds; remaining = remaining }

unfoldable pub days : List Day
days =
    -- the first listing of document 01: 9 energy units at 18
    day 2 2 (1 ∷ 1 ∷ 2 ∷ 1 ∷ []) 162 0 16
    ∷  -- no blower is on
    day 8 2000 (replicate 96 0) 0 0 0
    ∷  -- a half cent goes upward: 5 units at 31 are 15 cents and a half
    day 1 4 (replicate 24 0 ++ 1 ∷ []) 155 0 16
    ∷  -- three blowers at 36 tenths each: the sum is 11 cents, where 4 for each would make 12
    day 3 1 (3 ∷ []) 108 0 11
    ∷  -- a start in slot 25 counts at 31, the rate of hour 6, and not at 18, that of slot 24
    day 1 2000 (replicate 24 0 ++ 1 ∷ 0 ∷ []) 62031 62 3
    ∷  -- busy in every slot, with no wake cost: four times each of the 24 rates
    day 1 0 (replicate 96 1) 2412 2 41
    ∷  -- a short idle stretch is on and costs its slot; a long one is off, and the second start counts at the rate of its own slot
    day 1 3 (1 ∷ 0 ∷ 1 ∷ replicate 65 0 ++ 1 ∷ []) 252 0 25
    ∷ []

abbrev cost : Day → ℕ × Amount
cost d = let x : ℕ = charge d.blowers d.wake d.counts in (x, amount_of x)

abbrev stated : Day → ℕ × Amount
stated d = (d.tenths, record { hundreds = d.hundreds; remaining = d.remaining })

pub days_cost : map cost days ≡ map stated days
unfolding days charge amount_of cents_of listed_for listed blower_charge charge_from start_charge on_charge on_rate rate_of hour_of rates intervals runs join size state at_end start_at
days_cost = refl
