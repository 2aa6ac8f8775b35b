-- The stretches on the stretch lines: those of each blower are read back as its stretches, there are none of other blowers, and the charge of the lines is the
-- day's. Assumes nothing.
use Rattle.std.specs.Prelude.{◌≡◌, ◌⊎◌, Bool, true, false, ◌||◌, cond, ℕ, ◌+◌, ◌≤◌, ◌<◌, leb, length}
use Rattle.std.proofs.Math.Path.{refl, sym, ap, ap₂}
use Rattle.std.proofs.Common.{◌∙◌, inl, inr, arith, eq-eqb, ne_eqb}
use mathlib.Core.List.Memᴰ
use mathlib.Core.List.{List, [], ◌∷◌, map, Memᴰ}
use Rattle.std.proofs.Math.Dec.{eqb}
use Rattle.common.specs.Lists.{range, sum, keep, flat_map}
use Rattle.schedules.proofs.ListLaws.{in_flat_map}
use Rattle.method.specs.Intervals.{Interval, intervals, size}
use Rattle.method.specs.Keeping.{with_no_slots, stretches}
use Rattle.method.proofs.Cases.{le_or_lt}
use Rattle.method.proofs.IntervalLaws.{interval_longest}
use Rattle.energy.specs.Energy.{at_end, state, listed, listed_for}
use Rattle.energy.specs.Listed.{ListedStretch}
use Rattle.bill.specs.Bill.{blower_charge, charge}
use Rattle.plan_lines.specs.Lines.{Line, stretch_line, blower_lines, stretch_lines}
use Rattle.planning.specs.ReadListing.{stretch_on, stretches_on, billed, charge_on}
use Rattle.planning.proofs.ListLaws.{in_range, map_range_cong, flat_map_range_none, flat_map_range_one, keep_all, keep_none, keep_flat_map}

-- One line ------------------------------------------------------------------------

-- state 2 is that of busy stretches alone
busy_state : (d q : ℕ) (v : Interval) → eqb (state d q v) 2 ≡ v.busy
unfolding state
busy_state d q v = go v.busy (at_end d v || leb q (size v))
  where
    go : (b c : Bool) → eqb (cond b 2 (cond c 0 1)) 2 ≡ b
    go true c = refl
    go false true = refl
    go false false = refl

pub stretch_on_line : (d q k : ℕ) (v : Interval) → stretch_on (stretch_line d q k v) ≡ v
unfolding stretch_on stretch_line
stretch_on_line d q k v = λ i. record { first = v.first; last = v.last; busy = busy_state d q v i }

-- where a stretch is, one that has slots is
some_stretch : (v : Interval) (vs : List Interval) → Memᴰ v (with_no_slots vs) → (u : Interval) × Memᴰ u vs
some_stretch v [] i = absurd (Memᴰ.not-nil i)
some_stretch v (u ∷ vs) i = (u, Memᴰ.head refl)

-- One blower ----------------------------------------------------------------------

module _ (q : ℕ) (counts : List ℕ) where
  of_blower : (j : ℕ) (l : Line) → Memᴰ l (blower_lines q counts j) → l.a ≡ j
  unfolding blower_lines stretch_line
  of_blower j l m = let r = Memᴰ.of_map (stretch_line (length counts) q j) (intervals counts j) m in ap (λ (x : Line). x.a) (sym r.2)

  stretches_blower_lines : (j : ℕ) → map stretch_on (blower_lines q counts j) ≡ intervals counts j
  unfolding blower_lines
  stretches_blower_lines j = go (intervals counts j)
    where
      go : (vs : List Interval) → map stretch_on (map (stretch_line (length counts) q j) vs) ≡ vs
      go [] = refl
      go (v ∷ vs) = ap₂ (λ (x : Interval) (xs : List Interval). x ∷ xs) (stretch_on_line (length counts) q j v) (go vs)

  -- what the bill takes of them is what it takes of the stretches
  billed_blower_lines : (j : ℕ) → map billed (blower_lines q counts j) ≡ listed_for q counts j
  unfolding blower_lines billed stretch_line listed_for listed
  billed_blower_lines j = go (intervals counts j)
    where
      go : (vs : List Interval) → map billed (map (stretch_line (length counts) q j) vs) ≡ map (listed (length counts) q j) vs
      go [] = refl
      go (v ∷ vs) = ap (λ (xs : List ListedStretch). listed (length counts) q j v ∷ xs) (go vs)

  blower_same : (k : ℕ) → keep (λ l. eqb l.a k) (blower_lines q counts k) ≡ blower_lines q counts k
  blower_same k = keep_all (λ l. eqb l.a k) (blower_lines q counts k) (λ l m. eq-eqb l.a k (of_blower k l m))

  blower_other : (k j : ℕ) → (j ≡ k → ⊥) → keep (λ l. eqb l.a k) (blower_lines q counts j) ≡ []
  blower_other k j n = keep_none (λ l. eqb l.a k) (blower_lines q counts j) (λ l m. ne_eqb l.a k (λ e. n (sym (of_blower j l m) ∙ e)))

  -- All blowers -------------------------------------------------------------------

  module _ (m : ℕ) where
    by_blower : (k : ℕ)
        → keep (λ l. eqb l.a k) (stretch_lines m q counts) ≡ flat_map (λ j. keep (λ l. eqb l.a k) (blower_lines q counts j)) (range 1 m)
    unfolding stretch_lines
    by_blower k = keep_flat_map (blower_lines q counts) (λ l. eqb l.a k) (range 1 m)

    lines_of_blower : (k : ℕ) → 1 ≤ k → k ≤ m → keep (λ l. eqb l.a k) (stretch_lines m q counts) ≡ blower_lines q counts k
    lines_of_blower k o l = by_blower k ∙ flat_map_range_one _ k (blower_other k) 1 m o (omega arith) ∙ blower_same k

    pub stretches_on_lines : (k : ℕ) → 1 ≤ k → k ≤ m → stretches_on (stretch_lines m q counts) k ≡ intervals counts k
    unfolding stretches_on
    stretches_on_lines k o l = ap (map stretch_on) (lines_of_blower k o l) ∙ stretches_blower_lines k

    stretches_on_none : (k : ℕ) → ((j : ℕ) → 1 ≤ j → j < 1 + m → j ≡ k → ⊥) → stretches_on (stretch_lines m q counts) k ≡ []
    unfolding stretches_on
    stretches_on_none k h = ap (map stretch_on) (by_blower k ∙ flat_map_range_none _ 1 m (λ j o l. blower_other k j (h j o l)))

    -- The charge of the stretch lines is the day's.
    pub charge_on_lines : charge_on m q (stretch_lines m q counts) ≡ charge m q counts
    unfolding charge_on charge
    charge_on_lines = ap sum (map_range_cong 1 m (λ k o l. ap (blower_charge q) (ap (map billed) (lines_of_blower k o (omega arith)) ∙ billed_blower_lines k)))

    -- the lines are of blowers 1 to m alone
    pub on_lines : (k : ℕ) (v : Interval) → Memᴰ v (stretches_on (stretch_lines m q counts) k) → (1 ≤ k) × (k ≤ m)
    on_lines k v i = go (le_or_lt 1 k) (le_or_lt k m)
      where
        none : ((j : ℕ) → 1 ≤ j → j < 1 + m → j ≡ k → ⊥) → (1 ≤ k) × (k ≤ m)
        none h = absurd (Memᴰ.not-nil (rw (stretches_on_none k h) at i))

        go : (1 ≤ k) ⊎ (k < 1) → (k ≤ m) ⊎ (m < k) → (1 ≤ k) × (k ≤ m)
        go (inl a) (inl b) = (a, b)
        go (inl a) (inr b) = none (λ j o l e. omega arith)
        go (inr a) b = none (λ j o l e. omega arith)

    -- with the idle stretch, without slots, of a blower busy from slot 1: those on the lines are those of the counts
    pub listed_counts : (k : ℕ) (v : Interval) → Memᴰ v (with_no_slots (stretches_on (stretch_lines m q counts) k))
        → (1 ≤ k) × (k ≤ m) × Memᴰ v (stretches counts k)
    unfolding stretches
    listed_counts k v i =
        let u = some_stretch v (stretches_on (stretch_lines m q counts) k) i in
        let b = on_lines k u.0 u.1 in
        (b.0, b.1, rw (stretches_on_lines k b.0 b.1) at i)

    pub counts_listed : (k : ℕ) (v : Interval) → 1 ≤ k → k ≤ m → Memᴰ v (stretches counts k)
        → Memᴰ v (with_no_slots (stretches_on (stretch_lines m q counts) k))
    unfolding stretches
    counts_listed k v o l i = rw (stretches_on_lines k o l) i

    -- what stands on a stretch line
    pub in_stretch_lines : (l : Line) → Memᴰ l (stretch_lines m q counts)
        → (k : ℕ) × (v : Interval) × (1 ≤ k) × (k ≤ m) × (v.first ≤ v.last) × (v.last ≤ length counts) × (l ≡ stretch_line (length counts) q k v)
    unfolding stretch_lines blower_lines
    in_stretch_lines l i =
        let r = in_flat_map (blower_lines q counts) (range 1 m) i in
        let b = in_range 1 m r.1 in
        let w = Memᴰ.of_map (stretch_line (length counts) q r.0) (intervals counts r.0) r.2 in
        let e = (interval_longest counts r.0 w.0).0 w.1 in
        (r.0, w.0, b.0, omega (arith, b.1), e.filled, e.stops, sym w.2)
