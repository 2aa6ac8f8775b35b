-- Laws of rates and charges: the hours' slots, and the most that a day costs. Assumes nothing.
use Rattle.std.specs.Prelude.{◌≡◌, refl, Bool, true, false, cond, List, [], ◌∷◌, map, ℕ, zero, suc, ◌+◌, ◌*◌, ◌≤◌, leb, eqb, length, get_or}
use Rattle.std.proofs.Common.{mul-le-mul_left, mul_left_comm, mul_assoc, mul-add, arith, leb-true}
use Rattle.common.specs.Lists.{range, sum, every}
use Rattle.common.specs.Tests.{and_true}
use Rattle.checks.specs.Limits.{max_wake}
use Rattle.method.specs.Intervals.{Interval, intervals, size}
use Rattle.energy.specs.Energy.{state, listed, listed_for, on_in, on_slots, start_at, starts_from, starts_of, starts, on, energy}
use Rattle.energy.specs.EnergyLaws.{energy_most}
use Rattle.energy.specs.Listed.{ListedStretch}
use Rattle.bill.specs.Bill.{rates, hour_of, rate_of, on_rate, on_charge, start_charge, charge_from, blower_charge, charge}

-- Rates ------------------------------------------------------------------------

-- hour h covers the slots 4 × h + 1 to 4 × h + 4
pub hour_of_lem : (h t : ℕ) → 4 * h + 1 ≤ t → t ≤ 4 * h + 4 → hour_of t ≡ h
unfolding hour_of
hour_of_lem h t a b = omega arith

get_d_le : (most : ℕ) (xs : List ℕ) → every (map (λ x. leb x most) xs) ≡ true → (n : ℕ) → get_or xs n 0 ≤ most
get_d_le most [] e n = omega arith
get_d_le most (x ∷ xs) e zero = leb-true x most (and_true (leb x most) _ e).0
get_d_le most (x ∷ xs) e (suc n) = get_d_le most xs (and_true (leb x most) _ e).1 n

pub rate_of_le : (t : ℕ) → rate_of t ≤ 36
unfolding rate_of rates
rate_of_le t = get_d_le 36 rates refl (hour_of t)

pub on_rate_le : (x t : ℕ) → on_rate x t ≤ 36
unfolding on_rate
on_rate_le x t = go (eqb x 0)
  where
    go : (b : Bool) → cond b 0 (rate_of t) ≤ 36
    go true = omega arith
    go false = rate_of_le t

-- The most that a day costs --------------------------------------------------------

-- n slots in one state, from slot t on
on_rates_le : (x t n : ℕ) → sum (map (on_rate x) (range t n)) ≤ 36 * on_in x n
unfolding on_rate on_in
on_rates_le x t n = go (eqb x 0) t n
  where
    go : (off : Bool) (t n : ℕ) → sum (map (λ u. cond off 0 (rate_of u)) (range t n)) ≤ 36 * cond off 0 n
    go true t zero = omega arith
    go true t (suc n) = omega (arith, go true (suc t) n)
    go false t zero = omega arith
    go false t (suc n) = omega (arith, rate_of_le t, go false (suc t) n)

-- n starts at the rate r
starts_le : (n q r : ℕ) → r ≤ 36 → n * (q * r) ≤ 36 * (q * n)
starts_le n q r h = omega (arith, mul_left_comm n q r, mul_assoc q n r, mul-le-mul_left (q * n) h)

start_charge_le : (q before : ℕ) (s : ListedStretch) → start_charge q before s ≤ 36 * (q * start_at before s.state)
unfolding start_charge
start_charge_le q before s = starts_le (start_at before s.state) q _ (rate_of_le _)

pub charge_from_le : (d q k before : ℕ) (vs : List Interval)
    → charge_from q before (map (listed d q k) vs) ≤ 36 * (on_slots d q vs + q * starts_from before (map (state d q) vs))
unfolding charge_from listed on_charge on_slots starts_from size
charge_from_le d q k before [] = omega arith
charge_from_le d q k before (v ∷ vs) =
    let x : ℕ = state d q v in
    omega (
      arith,
      on_rates_le x v.first (size v),
      start_charge_le q before (listed d q k v),
      charge_from_le d q k x vs,
      mul-add q (start_at before x) (starts_from x (map (state d q) vs)),
    )

-- An energy unit costs at most 36.
pub charge_le_energy : (m q : ℕ) (counts : List ℕ) → charge m q counts ≤ 36 * energy m q counts
unfolding charge blower_charge listed_for energy on starts starts_of
charge_le_energy m q counts = go (range 1 m)
  where
    d : ℕ
    d = length counts

    go : (ks : List ℕ)
        → sum (map (λ k. blower_charge q (listed_for q counts k)) ks)
        ≤ 36 * (sum (map (λ k. on_slots d q (intervals counts k)) ks) + q * sum (map (λ k. starts_of d q (intervals counts k)) ks))
    go [] = omega arith
    go (k ∷ ks) =
        omega (
          arith,
          charge_from_le d q k 0 (intervals counts k),
          go ks,
          mul-add q (starts_of d q (intervals counts k)) (sum (map (λ k. starts_of d q (intervals counts k)) ks)),
        )

-- A bound of the charge of every sheet's day: at most 8 blowers, 96 slots and the greatest wake cost, and so at most
-- 768,768 energy units.
abbrev pub charge_most : ℕ
charge_most = 36 * (768 + max_wake * 384)

pub charge_most_lem : (m q : ℕ) (counts : List ℕ) → m ≤ 8 → q ≤ max_wake → length counts ≤ 96 → charge m q counts ≤ charge_most
charge_most_lem m q counts few wake_most day = omega (arith, charge_le_energy m q counts, energy_most m q counts few wake_most day)
