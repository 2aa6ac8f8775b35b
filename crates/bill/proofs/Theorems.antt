-- The blowers' tallies, slot by slot, add up to the charge defined from the stretches; whole cents are the nearest, halves upward; and the hundreds of
-- a day's bill fit a field. Assumes nothing.
use Rattle.std.specs.Prelude.{◌≡◌, refl, Bool, List, [], ◌∷◌, map, ℕ, suc, ◌+◌, ◌*◌, ◌≤◌, ◌<◌, length, replicate}
use Rattle.std.proofs.Common.{sym, ap, ◌∙◌, arith}
use Rattle.std.proofs.lemmas.List.{length-replicate}
use Rattle.common.specs.Lists.{range, sum}
use Rattle.checks.specs.Limits.{max_wake}
use Rattle.method.specs.Intervals.{Interval, intervals, busy_in}
use Rattle.method.proofs.IntervalLaws.{Fill, intervals_fill}
use Rattle.energy.specs.Energy.{listed, listed_for}
use Rattle.energy.specs.Listed.{ListedStretch}
use Rattle.bill.specs.Bill.{extent, on_charge, start_charge, charge_from, blower_charge, charge, cents_of, amount_of}
use Rattle.bill.proofs.BillLaws.{charge_most_lem}
use Rattle.bill.specs.Tally.{Tally, no_tally, with_slots, states_of, tally_of}
use Rattle.bill.proofs.TallyLaws.{with_slots_stretch, with_slots_append}

-- stretches that fill the slots after `from`, one after another
tally_charge : (f : ℕ → Bool) (d q k to from : ℕ) (vs : List Interval) (y : Tally) → Fill f to from vs
    → (with_slots q (suc from) (states_of (map (listed d q k) vs)) y).charge
    ≡ y.charge + charge_from q y.state (map (listed d q k) vs)
unfolding with_slots states_of charge_from listed
tally_charge f d q k to from [] y h = omega arith
tally_charge f d q k to from (v ∷ vs) y h =
    ap (λ (z : Tally). z.charge) (with_slots_append q (suc from) (replicate (extent s) s.state) (states_of ss) y)
    ∙ ap (λ t. (with_slots q t (states_of ss) (with_slots q (suc from) (replicate (extent s) s.state) y)).charge) next
    ∙ ap (λ z. (with_slots q (suc v.last) (states_of ss) z).charge) taken
    ∙ tally_charge f d q k to v.last vs
    (record { charge = y.charge + (on_charge s + start_charge q y.state s); state = s.state }) h.1
    ∙ omega arith
  where
    s : ListedStretch
    s = listed d q k v

    ss : List ListedStretch
    ss = map (listed d q k) vs

    next : suc from + length (replicate (extent s) s.state) ≡ suc v.last
    next = omega (arith, length-replicate (extent s) s.state, h.0.begins, h.0.filled)

    taken : with_slots q (suc from) (replicate (extent s) s.state) y ≡ record { charge = y.charge + (on_charge s + start_charge q y.state s); state = s.state }
    taken = ap (λ t. with_slots q t (replicate (extent s) s.state) y) (sym h.0.begins) ∙ with_slots_stretch q s y h.0.filled

-- A blower's tally, slot after slot, is its charge.
pub tally_is_charge : (q : ℕ) (counts : List ℕ) (k : ℕ) → (tally_of q counts k).charge ≡ blower_charge q (listed_for q counts k)
unfolding tally_of listed_for blower_charge
tally_is_charge q counts k =
    tally_charge (busy_in counts k) (length counts) q k (length counts) 0 (intervals counts k) no_tally
    (intervals_fill counts k)
    ∙ omega arith

-- The blowers' tallies add up to the day's charge.
pub tallies_add_up : (m q : ℕ) (counts : List ℕ) → sum (map (λ k. (tally_of q counts k).charge) (range 1 m)) ≡ charge m q counts
unfolding charge
tallies_add_up m q counts = go (range 1 m)
  where
    go : (ks : List ℕ) → sum (map (λ k. (tally_of q counts k).charge) ks) ≡ sum (map (λ k. blower_charge q (listed_for q counts k)) ks)
    go [] = refl
    go (k ∷ ks) = omega (arith, tally_is_charge q counts k, go ks)

-- Whole cents are the nearest, halves upward.
pub cents_nearest : (x : ℕ) → (10 * cents_of x ≤ x + 5) × (x + 5 < 10 * cents_of x + 10)
unfolding cents_of
cents_nearest x = (omega arith, omega arith)

-- Hundreds and remaining cents are the cents.
pub amount_cents : (x : ℕ) → (100 * (amount_of x).hundreds + (amount_of x).remaining ≡ cents_of x) × ((amount_of x).remaining < 100)
unfolding amount_of
amount_cents x = (omega arith, omega arith)

-- Bounds of the hundreds and the remaining cents of every sheet's day, by which each fits a field: at most 8 blowers,
-- 96 slots and the greatest wake cost.
pub amount_fits : (m q : ℕ) (counts : List ℕ) → m ≤ 8 → q ≤ max_wake → length counts ≤ 96
    → ((amount_of (charge m q counts)).hundreds ≤ 27675) × ((amount_of (charge m q counts)).remaining ≤ 99)
unfolding amount_of cents_of
amount_fits m q counts few wake_most day = (omega (arith, charge_most_lem m q counts few wake_most day), omega arith)
