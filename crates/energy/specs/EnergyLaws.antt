-- Bounds of on slots, starts and energy: a blower is on in at most the day's slots, and between two of its starts lies a stretch in which it is off.
-- Assumes nothing.
use Rattle.std.specs.Prelude.{◌≡◌, refl, Bool, true, false, ◌&&◌, cond, List, [], ◌∷◌, map, ℕ, zero, suc, ◌+◌, ◌*◌, ◌/◌, ◌≤◌, leb, eqb, length}
use Rattle.std.proofs.Common.{sym, ap, ◌∙◌, suc-mul, arith}
use Rattle.std.specs.Bool.{beq}
use Rattle.std.proofs.Math.Nat.{mul-le-mul}
use Rattle.std.proofs.Math.Dec.{leb-zero, leb-suc-suc, eqb-suc-zero}
use Rattle.std.proofs.lemmas.List.{length-map}
use Rattle.common.specs.Lists.{range, sum}
use Rattle.checks.specs.Limits.{max_wake}
use Rattle.method.specs.Intervals.{Interval, join, runs, intervals, size}
use Rattle.method.specs.FrontRunLaws.{stretch, front_run}
use Rattle.method.proofs.FrontRunLaws.{runs_front}
use Rattle.energy.specs.Energy.{state, on_in, on_slots, start_at, starts_from, starts_of, starts, on, energy}

-- Stretches --------------------------------------------------------------------

-- the slots of a stretch, and one slot more before it
size_stretch : (t n : ℕ) (b : Bool) → size (stretch t (t + n) b) ≡ suc n
unfolding size
size_stretch t n b = omega arith

-- one slot more is in the first stretch or is one
sizes_join : (t n : ℕ) (b c : Bool) (vs : List Interval)
    → sum (map size (join t b (stretch (suc t) (suc t + n) c ∷ vs))) ≡ suc (sum (map size (stretch (suc t) (suc t + n) c ∷ vs)))
unfolding join size
sizes_join t n true true vs = omega arith
sizes_join t n true false vs = omega arith
sizes_join t n false true vs = omega arith
sizes_join t n false false vs = omega arith

-- the stretches hold each slot once
pub sizes_runs : (t : ℕ) (bs : List Bool) → sum (map size (runs t bs)) ≡ length bs
unfolding runs join size
sizes_runs t [] = refl
sizes_runs t (b ∷ []) = omega arith
sizes_runs t (b ∷ c ∷ cs) =
    ap (λ vs. sum (map size (join t b vs))) (runs_front (suc t) c cs)
    ∙ sizes_join t (front_run c cs) b c _
    ∙ ap (λ vs. suc (sum (map size vs))) (sym (runs_front (suc t) c cs))
    ∙ ap suc (sizes_runs (suc t) (c ∷ cs))

length_join : (t : ℕ) (b : Bool) (vs : List Interval) → length (join t b vs) ≤ suc (length vs)
unfolding join
length_join t b [] = omega arith
length_join t b (v ∷ vs) = go b v.busy
  where
    go : (b c : Bool)
        → length (cond (beq b c) (stretch t v.last b ∷ vs) (stretch t t b ∷ v ∷ vs)) ≤ suc (suc (length vs))
    go true true = omega arith
    go true false = omega arith
    go false true = omega arith
    go false false = omega arith

-- each stretch has a slot
pub length_runs : (t : ℕ) (bs : List Bool) → length (runs t bs) ≤ length bs
unfolding runs
length_runs t [] = omega arith
length_runs t (b ∷ bs) = omega (arith, length_join t b (runs (suc t) bs), length_runs (suc t) bs)

pub length_intervals : (counts : List ℕ) (k : ℕ) → length (intervals counts k) ≤ length counts
unfolding intervals
length_intervals counts k = omega (arith, length_runs 1 (map (leb k) counts), length-map counts (leb k))

-- One blower -------------------------------------------------------------------

pub on_in_le : (x n : ℕ) → on_in x n ≤ n
unfolding on_in
on_in_le x n = go (eqb x 0)
  where
    go : (b : Bool) → cond b 0 n ≤ n
    go true = omega arith
    go false = omega arith

pub start_at_le : (x y : ℕ) → start_at x y ≤ 1
unfolding start_at
start_at_le x y = go (eqb x 0 && leb 1 y)
  where
    go : (b : Bool) → cond b 1 0 ≤ 1
    go true = omega arith
    go false = omega arith

on_slots_sizes : (d q : ℕ) (vs : List Interval) → on_slots d q vs ≤ sum (map size vs)
unfolding on_slots
on_slots_sizes d q [] = omega arith
on_slots_sizes d q (v ∷ vs) = omega (arith, on_in_le (state d q v) (size v), on_slots_sizes d q vs)

pub on_slots_le : (d q : ℕ) (counts : List ℕ) (k : ℕ) → on_slots d q (intervals counts k) ≤ length counts
unfolding intervals
on_slots_le d q counts k =
    omega (arith, on_slots_sizes d q (runs 1 (map (leb k) counts)), sizes_runs 1 (map (leb k) counts), length-map counts (leb k))

-- 1 for off
abbrev off : ℕ → ℕ
off x = cond (eqb x 0) 1 0

start_at_off : (x y : ℕ) → 2 * start_at x y + off y ≤ suc (off x)
unfolding start_at
start_at_off zero zero = omega arith
start_at_off zero (suc y) = rw (eqb-suc-zero y, leb-suc-suc 0 y, leb-zero y) (omega arith)
start_at_off (suc x) zero = rw (eqb-suc-zero x) (omega arith)
start_at_off (suc x) (suc y) = rw (eqb-suc-zero x, eqb-suc-zero y) (omega arith)

-- after off a start may come at once, after on only after a stretch that is off
starts_from_le : (xs : List ℕ) (x : ℕ) → 2 * starts_from x xs ≤ length xs + off x
unfolding starts_from
starts_from_le [] x = omega arith
starts_from_le (y ∷ ys) x = omega (arith, start_at_off x y, starts_from_le ys y)

pub starts_of_le : (d q : ℕ) (counts : List ℕ) (k : ℕ) → 2 * starts_of d q (intervals counts k) ≤ suc (length counts)
unfolding starts_of
starts_of_le d q counts k =
    omega (arith, starts_from_le (map (state d q) (intervals counts k)) 0, length-map (intervals counts k) (state d q), length_intervals counts k)

-- All blowers ------------------------------------------------------------------

sum_range_le : (f : ℕ → ℕ) (c : ℕ) → ((k : ℕ) → f k ≤ c) → (a m : ℕ) → sum (map f (range a m)) ≤ m * c
sum_range_le f c h a zero = omega arith
sum_range_le f c h a (suc m) = omega (arith, h a, sum_range_le f c h (suc a) m, suc-mul m c)

pub on_le : (m q : ℕ) (counts : List ℕ) → on m q counts ≤ m * length counts
unfolding on
on_le m q counts = sum_range_le (λ k. on_slots (length counts) q (intervals counts k)) (length counts) (on_slots_le (length counts) q counts) 1 m

pub starts_le : (m q : ℕ) (counts : List ℕ) → starts m q counts ≤ m * (suc (length counts) / 2)
unfolding starts
starts_le m q counts =
    sum_range_le (λ k. starts_of (length counts) q (intervals counts k)) (suc (length counts) / 2) (λ k. omega (arith, starts_of_le (length counts) q counts k)) 1 m

-- The starts and the energy of every sheet's day: at most 8 blowers, 96 slots and the greatest wake cost.
module _ (m q : ℕ) (counts : List ℕ) (few : m ≤ 8) (wake_most : q ≤ max_wake) (day : length counts ≤ 96) where
  pub starts_most : starts m q counts ≤ 384
  starts_most = omega (arith, starts_le m q counts, mul-le-mul few (half (length counts) day))
    where
      half : (n : ℕ) → n ≤ 96 → suc n / 2 ≤ 48
      half n h = omega arith

  pub energy_most : energy m q counts ≤ 768 + max_wake * 384
  unfolding energy
  energy_most = omega (arith, on_le m q counts, mul-le-mul few day, mul-le-mul wake_most starts_most)
