-- How a tally goes on from slot to slot and from stretch to stretch, and how the tallies add up. Assumes nothing.
use Rattle.std.specs.Prelude.{◌≡◌, refl, List, [], ◌∷◌, map, ℕ, suc, ◌+◌, ◌-◌, ◌*◌, ◌≤◌, ◌<◌, length, replicate}
use Rattle.std.proofs.Common.{sym, ap, ◌∙◌, mul-le-mul, arith}
use Rattle.common.specs.Lists.{range, sum}
use Rattle.checks.specs.Limits.{max_wake}
use Rattle.method.specs.Intervals.{intervals}
use Rattle.energy.specs.Listed.{ListedStretch}
use Rattle.energy.specs.Energy.{listed_for, starts_of}
use Rattle.energy.specs.EnergyLaws.{on_slots_le, starts_of_le}
use Rattle.energy.specs.Usage.{CanCharge}
use Rattle.energy.specs.UsageSteps.{sum_all, sum_next, sum_none}
use Rattle.bill.specs.Bill.{on_charge, start_charge, charge_from, blower_charge, charge}
use Rattle.bill.specs.Tally.{Tally, no_tally, with_slot, with_slots, with_stretch, CanAddSlot, CanAddStretch}
use Rattle.bill.proofs.BillLaws.{charge_from_le, charge_most, charge_most_lem}
use Rattle.bill.proofs.TallyLaws.{with_slots_stretch, with_slots_le}

-- ---- the slots of a stretch

-- the slots of the stretch s from slot t on, taken into the tally z, make the tally of the whole stretch
pub record SlotsFrom (q : ℕ) (s : ListedStretch) (y : Tally) (t : ℕ) (z : Tally) : Type 0 where
  pub all : with_stretch q s y ≡ with_slots q t (replicate (s.last + 1 - t) s.state) z

module _ {q : ℕ} {s : ListedStretch} {y : Tally} where
  pub slots_begin : SlotsFrom q s y s.first y
  unfolding with_stretch
  slots_begin = record { all = ap (λ n. with_slots q s.first (replicate n s.state) y) (slots s.first s.last) }
    where
      slots : (a b : ℕ) → suc b - a ≡ b + 1 - a
      slots a b = omega arith

  module _ {t : ℕ} {z : Tally} (u : SlotsFrom q s y t z) where
    pub slots_more : {r : Tally} → t ≤ s.last → r ≡ with_slot q t s.state z → SlotsFrom q s y (t + 1) r
    unfolding with_slots
    slots_more {r} h e =
        record {
          all =
              u.all
              ∙ ap (λ n. with_slots q t (replicate n s.state) z) left
              ∙ ap (with_slots q (suc t) (replicate (s.last + 1 - (t + 1)) s.state)) (sym e)
              ∙ ap (λ i. with_slots q i (replicate (s.last + 1 - (t + 1)) s.state) r) (next t);
        }
      where
        left : s.last + 1 - t ≡ suc (s.last + 1 - (t + 1))
        left = omega arith

        next : (n : ℕ) → suc n ≡ n + 1
        next n = omega arith

    pub slots_end : s.last < t → z ≡ with_stretch q s y
    unfolding with_slots
    slots_end h = sym (u.all ∙ ap (λ n. with_slots q t (replicate n s.state) z) none)
      where
        none : s.last + 1 - t ≡ 0
        none = omega arith

    pub slots_can : CanAddStretch q s y → 1 ≤ t → t ≤ s.last → s.last ≤ 96 → CanAddSlot q t s.state z
    slots_can can b h e =
        let r : SlotsFrom q s y (t + 1) (with_slot q t s.state z) = slots_more h refl in
        record {
          begins = b;
          ends = omega arith;
          wake_most = can.wake_most;
          fits =
              omega (
                arith,
                can.fits,
                ap (λ (x : Tally). x.charge) r.all,
                with_slots_le q (t + 1) (replicate (s.last + 1 - (t + 1)) s.state) (with_slot q t s.state z),
              );
        }

-- ---- the stretches of a blower

-- the charge in the tally z, with that of the stretches left, is the blower's
pub record Tallied (q : ℕ) (counts : List ℕ) (k : ℕ) (z : Tally) (rest : List ListedStretch) : Type 0 where
  pub all : blower_charge q (listed_for q counts k) ≡ z.charge + charge_from q z.state rest

-- a blower's charge is small
pub blower_charge_few : (q : ℕ) (counts : List ℕ) (k : ℕ) → q ≤ max_wake → length counts ≤ 96
    → blower_charge q (listed_for q counts k) ≤ charge_most
unfolding blower_charge listed_for starts_of
blower_charge_few q counts k wake_most day =
    omega (
      arith,
      charge_from_le (length counts) q k 0 (intervals counts k),
      on_slots_le (length counts) q counts k,
      mul-le-mul wake_most (starts_few (starts_of (length counts) q (intervals counts k)) (length counts) (starts_of_le (length counts) q counts k) day),
    )
  where
    starts_few : (s n : ℕ) → 2 * s ≤ suc n → n ≤ 96 → s ≤ 48
    starts_few s n h l = omega arith

module _ {q : ℕ} {counts : List ℕ} {k : ℕ} where
  pub tallied_begin : {rest : List ListedStretch} → rest ≡ listed_for q counts k → Tallied q counts k no_tally rest
  unfolding blower_charge
  tallied_begin e = record { all = ap (charge_from q 0) (sym e) ∙ omega arith }

  module _ {z : Tally} {rest : List ListedStretch} (u : Tallied q counts k z rest) where
    pub tallied_more : {s : ListedStretch} {rest' : List ListedStretch} {r : Tally} → rest ≡ s ∷ rest' → s.first ≤ s.last → r ≡ with_stretch q s z
        → Tallied q counts k r rest'
    unfolding charge_from with_stretch
    tallied_more {s} {rest'} {r} e h g =
        record {
          all =
              omega (
                arith,
                u.all,
                ap (charge_from q z.state) e,
                ap (λ (y : Tally). y.charge) taken,
                ap (λ (y : Tally). charge_from q y.state rest') taken,
              );
        }
      where
        taken : r ≡ record { charge = z.charge + (on_charge s + start_charge q z.state s); state = s.state }
        taken = g ∙ with_slots_stretch q s z h

    pub tallied_can : {s : ListedStretch} {rest' : List ListedStretch} → rest ≡ s ∷ rest' → s.first ≤ s.last → q ≤ max_wake → length counts ≤ 96
        → CanAddStretch q s z
    tallied_can {s} {rest'} e h wake_most day =
        record {
          wake_most = wake_most;
          fits = omega (arith, (tallied_more {r = with_stretch q s z} e h refl).all, blower_charge_few q counts k wake_most day);
        }

    pub tallied_end : rest ≡ [] → z.charge ≡ blower_charge q (listed_for q counts k)
    unfolding charge_from
    tallied_end e = omega (arith, u.all, ap (charge_from q z.state) e)

-- ---- all blowers

-- the sum of the charges of the blowers before b: with those of the others it is the day's
pub record ChargedBefore (m q : ℕ) (counts : List ℕ) (b total : ℕ) : Type 0 where
  pub all : charge m q counts ≡ total + sum (map (λ k. blower_charge q (listed_for q counts k)) (range b (m + 1 - b)))

module _ {m q : ℕ} {counts : List ℕ} where
  pub charged_begin : ChargedBefore m q counts 1 0
  unfolding charge
  charged_begin = record { all = sum_all (λ k. blower_charge q (listed_for q counts k)) m }

  module _ {b total : ℕ} (u : ChargedBefore m q counts b total) where
    pub charged_more : {r : ℕ} → b ≤ m → r ≡ blower_charge q (listed_for q counts b) → ChargedBefore m q counts (b + 1) (total + r)
    charged_more h e = record { all = omega (arith, u.all, e, sum_next (λ k. blower_charge q (listed_for q counts k)) m b h) }

    pub charged_few : CanCharge m q → length counts ≤ 96 → total ≤ charge_most
    charged_few can day = omega (arith, u.all, charge_most_lem m q counts can.few can.wake_most day)

    pub charged_end : m < b → total ≡ charge m q counts
    charged_end h = omega (arith, u.all, sum_none (λ k. blower_charge q (listed_for q counts k)) m b h)
