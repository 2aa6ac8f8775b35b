-- Laws of a tally: a slot by cases, the slots of a stretch, and bounds. Assumes nothing.
use Rattle.std.specs.Prelude.{◌≡◌, refl, List, [], ◌∷◌, ◌++◌, map, ℕ, zero, suc, ◌+◌, ◌-◌, ◌*◌, ◌≤◌, length, replicate}
use Rattle.std.proofs.Common.{ap, ◌∙◌, mul-le-mul, arith}
use Rattle.std.proofs.Math.Dec.{eqb-suc-zero}
use Rattle.common.specs.Lists.{range, sum}
use Rattle.checks.specs.Limits.{max_wake}
use Rattle.energy.specs.Energy.{start_at}
use Rattle.energy.specs.Listed.{ListedStretch}
use Rattle.bill.specs.Bill.{rate_of, extent, on_rate, on_charge, start_charge}
use Rattle.bill.proofs.BillLaws.{rate_of_le}
use Rattle.bill.specs.Tally.{Tally, slot_charge, with_slot, with_slots}

start_at_same : (x : ℕ) → start_at x x ≡ 0
unfolding start_at
start_at_same zero = refl
start_at_same (suc x) = rw (eqb-suc-zero x)

-- what a start costs, and its slot's rate
pub start_le : (q t r : ℕ) → q ≤ max_wake → r ≡ rate_of t → (r ≤ 36) × (q * r ≤ max_wake * 36)
start_le q t r h e = let l : r ≤ 36 = rw e (rate_of_le t) in (l, mul-le-mul h l)

-- ---- slots in one state

-- a tally, however its charge is summed
same_tally : (a b x : ℕ) → a ≡ b → ◌≡◌ {A = Tally} (record { charge = a; state = x }) (record { charge = b; state = x })
same_tally a b x e = rw e

-- slots in the state that the tally is in: no start
with_slots_same : (q x t n c : ℕ) → with_slots q t (replicate n x) (record { charge = c; state = x }) ≡ record { charge = c + sum (map (on_rate x) (range t n)); state = x }
unfolding with_slots with_slot slot_charge
with_slots_same q x t zero c = same_tally _ _ x (omega arith)
with_slots_same q x t (suc n) c = with_slots_same q x (suc t) n (c + slot_charge q t x x) ∙ same_tally _ _ x (omega (arith, start_at_same x, rate))
  where
    rate : slot_charge q t x x ≡ on_rate x t
    rate = rw (start_at_same x) (omega arith)

-- a stretch: its slots, and a start at its first one
pub with_slots_stretch : (q : ℕ) (s : ListedStretch) (y : Tally) → s.first ≤ s.last
    → with_slots q s.first (replicate (extent s) s.state) y ≡ record { charge = y.charge + (on_charge s + start_charge q y.state s); state = s.state }
unfolding with_slots with_slot slot_charge on_charge start_charge
with_slots_stretch q s y h = go (extent s) (s.last - s.first) (omega arith)
  where
    x : ℕ
    x = s.state

    go : (e n : ℕ) → e ≡ suc n
        → with_slots q s.first (replicate e x) y ≡ record { charge = y.charge + (sum (map (on_rate x) (range s.first e)) + start_at y.state x * (q * rate_of s.first)); state = x }
    go e n p = rw p (with_slots_same q x (suc s.first) n (y.charge + slot_charge q s.first y.state x) ∙ same_tally _ _ x (omega arith))

-- slots after slots
pub with_slots_append : (q t : ℕ) (xs ys : List ℕ) (y : Tally) → with_slots q t (xs ++ ys) y ≡ with_slots q (t + length xs) ys (with_slots q t xs y)
unfolding with_slots
with_slots_append q t [] ys y = ap (λ u. with_slots q u ys y) (plus_zero t)
  where
    plus_zero : (n : ℕ) → n ≡ n + 0
    plus_zero n = omega arith
with_slots_append q t (x ∷ xs) ys y = with_slots_append q (suc t) xs ys (with_slot q t x y) ∙ ap (λ u. with_slots q u ys (with_slots q (suc t) xs (with_slot q t x y))) (omega arith)

-- ---- a charge never falls

pub with_slots_le : (q t : ℕ) (xs : List ℕ) (y : Tally) → y.charge ≤ (with_slots q t xs y).charge
unfolding with_slots with_slot
with_slots_le q t [] y = omega arith
with_slots_le q t (x ∷ xs) y = omega (arith, with_slots_le q (suc t) xs (with_slot q t x y))
