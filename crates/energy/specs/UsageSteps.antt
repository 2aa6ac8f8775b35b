-- How on slots and starts add up, from stretch to stretch and from blower to blower. Assumes nothing.
use Rattle.std.specs.Prelude.{◌≡◌, refl, Bool, true, false, ◌||◌, eqb, List, [], ◌∷◌, map, ℕ, suc, ◌+◌, ◌-◌, ◌*◌, ◌≤◌, ◌<◌, length}
use Rattle.std.proofs.Common.{sym, ap, ◌∙◌, mul-le-mul, arith}
use borrow.Author.Tests.{eq-eqb, ne_eqb, le-leb, lt-leb}
use Rattle.common.specs.Lists.{range, sum}
use Rattle.checks.specs.Limits.{max_wake}
use Rattle.method.specs.Intervals.{Interval, intervals, size}
use Rattle.method.specs.FrontRunLaws.{stretch}
use Rattle.energy.specs.Listed.{ListedStretch}
use Rattle.energy.specs.Energy.{at_end, state, listed, listed_for, on_in, on_slots, start_at, starts_from, starts_of, starts, on}
use Rattle.energy.specs.EnergyLaws.{on_slots_le, starts_of_le, on_le, starts_most}
use Rattle.energy.specs.Usage.{blower_use, CanCharge}
use Rattle.energy.specs.declared.BlowerUse.{BlowerUse}

-- ---- states by cases

pub state_busy : (d q first last : ℕ) (b : Bool) → b ≡ true → 2 ≡ state d q (stretch first last b)
unfolding state
state_busy d q first last b e = rw e

module _ (d q first last : ℕ) (b : Bool) (e : b ≡ false) where
  pub state_first : first ≡ 1 → 0 ≡ state d q (stretch first last b)
  unfolding state at_end
  state_first f = rw (e, eq-eqb first 1 f)

  pub state_last : last ≡ d → 0 ≡ state d q (stretch first last b)
  unfolding state at_end
  state_last f = rw (e, eq-eqb last d f, or_true (eqb first 1))
    where
      or_true : (x : Bool) → (x || true) ≡ true
      or_true true = refl
      or_true false = refl

  module _ (h : first ≤ last) where
    pub state_off : q ≤ last + 1 - first → 0 ≡ state d q (stretch first last b)
    unfolding state size
    state_off l = rw (e, le-leb q (suc last - first) (omega arith), or_true (at_end d (stretch first last false)))
      where
        or_true : (x : Bool) → (x || true) ≡ true
        or_true true = refl
        or_true false = refl

    pub state_on : (first ≡ 1 → ⊥) → (last ≡ d → ⊥) → last + 1 - first < q → 1 ≡ state d q (stretch first last b)
    unfolding state at_end size
    state_on f g l = rw (e, ne_eqb first 1 f, ne_eqb last d g, lt-leb q (suc last - first) (omega arith))

-- ---- one blower

-- the on slots of listed stretches
unfoldable pub on_of : List ListedStretch → ℕ
on_of ss = sum (map (λ s. on_in s.state (s.last + 1 - s.first)) ss)

-- the starts along listed stretches, after the state before them
unfoldable pub starts_after : (before : ℕ) → List ListedStretch → ℕ
starts_after before ss = starts_from before (map (λ s. s.state) ss)

on_of_listed : (d q k : ℕ) (vs : List Interval) → on_slots d q vs ≡ on_of (map (listed d q k) vs)
unfolding on_slots on_of listed size
on_of_listed d q k [] = refl
on_of_listed d q k (v ∷ vs) = omega (arith, on_of_listed d q k vs, ap (on_in (state d q v)) (slots v.first v.last))
  where
    slots : (a b : ℕ) → suc b - a ≡ b + 1 - a
    slots a b = omega arith

starts_after_listed : (d q k : ℕ) (vs : List Interval) → starts_of d q vs ≡ starts_after 0 (map (listed d q k) vs)
unfolding starts_of starts_after listed
starts_after_listed d q k vs = ap (starts_from 0) (go vs)
  where
    go : (vs : List Interval) → map (state d q) vs ≡ map (λ s. s.state) (map (listed d q k) vs)
    go [] = refl
    go (v ∷ vs) = ap (λ xs. state d q v ∷ xs) (go vs)

-- the on slots and the starts of the stretches passed, the last of which has the state `before`: with those of the stretches left they are all
pub record Used (q : ℕ) (counts : List ℕ) (k before used started : ℕ) (rest : List ListedStretch) : Type 0 where
  pub on_all : on_slots (length counts) q (intervals counts k) ≡ used + on_of rest
  pub starts_all : starts_of (length counts) q (intervals counts k) ≡ started + starts_after before rest

module _ {q : ℕ} {counts : List ℕ} {k : ℕ} where
  pub used_begin : {rest : List ListedStretch} → rest ≡ listed_for q counts k → Used q counts k 0 0 0 rest
  unfolding listed_for
  used_begin e =
      record {
        on_all = on_of_listed (length counts) q k (intervals counts k) ∙ ap on_of (sym e) ∙ omega arith;
        starts_all = starts_after_listed (length counts) q k (intervals counts k) ∙ ap (starts_after 0) (sym e) ∙ omega arith;
      }

  module _ {before used started : ℕ} {rest : List ListedStretch} (u : Used q counts k before used started rest) where
    pub used_more : {s : ListedStretch} {rest' : List ListedStretch} {m n r : ℕ} → rest ≡ s ∷ rest' → m ≡ s.last + 1 - s.first → n ≡ on_in s.state m
        → r ≡ start_at before s.state → Used q counts k s.state (used + n) (started + r) rest'
    unfolding on_of starts_after starts_from
    used_more {s} {rest'} {m} {n} {r} e f g h =
        record {
          on_all = omega (arith, u.on_all, ap on_of e, g ∙ ap (on_in s.state) f);
          starts_all = omega (arith, u.starts_all, ap (starts_after before) e, h);
        }

    -- no more than the day's slots
    pub used_few : (used ≤ length counts) × (started ≤ suc (length counts))
    used_few = (omega (arith, u.on_all, on_slots_le (length counts) q counts k), omega (arith, u.starts_all, starts_of_le (length counts) q counts k))

    pub used_end : rest ≡ [] → record { on = used; starts = started } ≡ blower_use (length counts) q (intervals counts k)
    unfolding blower_use on_of starts_after starts_from
    used_end e = same _ _ _ _ (omega (arith, u.on_all, ap on_of e)) (omega (arith, u.starts_all, ap (starts_after before) e))
      where
        same : (a b a' b' : ℕ) → a ≡ a' → b ≡ b' → ◌≡◌ {A = BlowerUse} (record { on = a; starts = b }) (record { on = a'; starts = b' })
        same a b a' b' p r = rw (p, r)

-- ---- all blowers

-- the on slots and the starts of the blowers before b: with those of the others they are all
pub record UsedBefore (m q : ℕ) (counts : List ℕ) (b used started : ℕ) : Type 0 where
  pub on_all : on m q counts ≡ used + sum (map (λ k. on_slots (length counts) q (intervals counts k)) (range b (m + 1 - b)))
  pub starts_all : starts m q counts ≡ started + sum (map (λ k. starts_of (length counts) q (intervals counts k)) (range b (m + 1 - b)))

-- all blowers, those from 1 on
pub sum_all : (f : ℕ → ℕ) (m : ℕ) → sum (map f (range 1 m)) ≡ 0 + sum (map f (range 1 (m + 1 - 1)))
sum_all f m = ap (λ n. sum (map f (range 1 n))) (all m) ∙ omega arith
  where
    all : (n : ℕ) → n ≡ n + 1 - 1
    all n = omega arith

-- one blower more of those from b on
pub sum_next : (f : ℕ → ℕ) (m b : ℕ) → b ≤ m → sum (map f (range b (m + 1 - b))) ≡ f b + sum (map f (range (b + 1) (m + 1 - (b + 1))))
sum_next f m b h = ap (λ n. sum (map f (range b n))) left ∙ ap (λ c. f b + sum (map f (range c (m + 1 - (b + 1))))) (next b)
  where
    left : m + 1 - b ≡ suc (m + 1 - (b + 1))
    left = omega arith

    next : (n : ℕ) → suc n ≡ n + 1
    next n = omega arith

-- after the last blower
pub sum_none : (f : ℕ → ℕ) (m b : ℕ) → m < b → sum (map f (range b (m + 1 - b))) ≡ 0
sum_none f m b h = ap (λ n. sum (map f (range b n))) over
  where
    over : m + 1 - b ≡ 0
    over = omega arith

module _ {m q : ℕ} {counts : List ℕ} where
  pub used_before_begin : UsedBefore m q counts 1 0 0
  unfolding on starts
  used_before_begin =
      record {
        on_all = sum_all (λ k. on_slots (length counts) q (intervals counts k)) m;
        starts_all = sum_all (λ k. starts_of (length counts) q (intervals counts k)) m;
      }

  module _ {b used started : ℕ} (u : UsedBefore m q counts b used started) where
    pub used_before_more : {r : BlowerUse} → b ≤ m → r ≡ blower_use (length counts) q (intervals counts b)
        → UsedBefore m q counts (b + 1) (used + r.on) (started + r.starts)
    unfolding blower_use
    used_before_more {r} h e =
        record {
          on_all = omega (arith, u.on_all, ap (λ (x : BlowerUse). x.on) e, sum_next (λ k. on_slots (length counts) q (intervals counts k)) m b h);
          starts_all = omega (arith, u.starts_all, ap (λ (x : BlowerUse). x.starts) e, sum_next (λ k. starts_of (length counts) q (intervals counts k)) m b h);
        }

    pub used_before_end : m < b → (used ≡ on m q counts) × (started ≡ starts m q counts)
    used_before_end h = (
      omega (arith, u.on_all, sum_none (λ k. on_slots (length counts) q (intervals counts k)) m b h),
      omega (arith, u.starts_all, sum_none (λ k. starts_of (length counts) q (intervals counts k)) m b h),
    )

    -- what is counted is small
    pub used_before_few : CanCharge m q → length counts ≤ 96 → (used ≤ 768) × (started ≤ 384)
    used_before_few can day = (omega (arith, u.on_all, on_le m q counts, mul-le-mul can.few day), omega (arith, u.starts_all, starts_most m q counts can.few can.wake_most day))

-- the day's energy is small
pub energy_few : (m q : ℕ) (counts : List ℕ) → CanCharge m q → length counts ≤ 96
    → (on m q counts ≤ 768) × (starts m q counts ≤ 384) × (q * starts m q counts ≤ max_wake * 384)
energy_few m q counts can day =
    let s : starts m q counts ≤ 384 = starts_most m q counts can.few can.wake_most day in
    (omega (arith, on_le m q counts, mul-le-mul can.few day), s, mul-le-mul can.wake_most s)
