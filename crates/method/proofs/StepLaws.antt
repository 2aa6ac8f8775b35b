-- One slot more for one blower: which placings stay sound, and that the blower can always be idle there or busy. Assumes nothing.
use Rattle.std.specs.Prelude.{◌≡◌, refl, ◌⊎◌, Bool, true, false, not, List, ℕ, suc, ◌-◌, ◌≤◌, ◌<◌, min, max, length, get_or, set}
use Rattle.std.proofs.Common.{sym, ◌∙◌, inl, inr, arith, length-set}
use Rattle.std.proofs.Math.Path.{ap}
use Rattle.std.proofs.lemmas.Bool.{false≢true}
use Rattle.std.proofs.Math.Seq.{set_out}
use Rattle.schedules.specs.Schedules.{Demand, Schedule, Sound, Windows, AtMost, load}
use Rattle.schedules.proofs.Theorems.{feasible_iff_sound}
use Rattle.schedules.proofs.OneSlot.{sound_set_high, sound_set_low}
use Rattle.method.specs.Method.{Bounds, Sized, FeasibleDay, feasible_under}
use Rattle.method.specs.Keeping.{Meets}
use Rattle.method.specs.Slotwise.{keep_at, busy_at, settle_from}
use Rattle.method.proofs.Cases.{le_or_lt, set_cases}

-- One entry of a list set lower, or higher ------------------------------------

module _ (xs : List ℕ) (t y u : ℕ) where
  set_min_le : get_or (set xs t (min y (get_or xs t 0))) u 0 ≤ get_or xs u 0
  set_min_le = go (le_or_lt (length xs) t)
    where
      go : (length xs ≤ t) ⊎ (t < length xs) → get_or (set xs t (min y (get_or xs t 0))) u 0 ≤ get_or xs u 0
      go (inl l) = rw (set_out xs t (min y (get_or xs t 0)) l) (omega arith)
      go (inr l) = set_cases (λ x. x ≤ get_or xs u 0) xs t (min y (get_or xs t 0)) u l (λ e. omega (arith, ap (λ i. get_or xs i 0) e)) (λ n. omega arith)

  le_set_max : get_or xs u 0 ≤ get_or (set xs t (max y (get_or xs t 0))) u 0
  le_set_max = go (le_or_lt (length xs) t)
    where
      go : (length xs ≤ t) ⊎ (t < length xs) → get_or xs u 0 ≤ get_or (set xs t (max y (get_or xs t 0))) u 0
      go (inl l) = rw (set_out xs t (max y (get_or xs t 0)) l) (omega arith)
      go (inr l) = set_cases (λ x. get_or xs u 0 ≤ x) xs t (max y (get_or xs t 0)) u l (λ e. omega (arith, ap (λ i. get_or xs i 0) e)) (λ n. omega arith)

-- Bounds for each slot --------------------------------------------------------

-- c is as tight as b, or tighter
pub record Tighter (slots : ℕ) (b c : Bounds) : Type 0 where
  pub lows : AtMost slots b.low c.low
  pub highs : AtMost slots c.high b.high

abbrev pub SoundUnder : (slots : ℕ) (ds : List Demand) (b : Bounds) (p : Schedule) → Type 0
SoundUnder slots ds b p = Sound slots ds b.low b.high p

pub tighter_refl : {slots : ℕ} {b : Bounds} → Tighter slots b b
tighter_refl = record { lows = λ t l. omega arith; highs = λ t l. omega arith }

pub tighter_trans : {slots : ℕ} {b c d : Bounds} → Tighter slots b c → Tighter slots c d → Tighter slots b d
tighter_trans p q = record { lows = λ t l. omega (arith, p.lows t l, q.lows t l); highs = λ t l. omega (arith, p.highs t l, q.highs t l) }

module _ {slots : ℕ} (k : ℕ) where
  pub keep_at_sized : (busy : Bool) (t : ℕ) {b : Bounds} → Sized slots b → Sized slots (keep_at k busy t b)
  keep_at_sized false t {b} s = record { each_low = s.each_low; each_high = length-set b.high t _ ∙ s.each_high }
  keep_at_sized true t {b} s = record { each_low = length-set b.low t _ ∙ s.each_low; each_high = s.each_high }

  pub keep_at_tighter : (busy : Bool) (t : ℕ) (b : Bounds) → Tighter slots b (keep_at k busy t b)
  keep_at_tighter false t b = record { lows = λ u m. omega arith; highs = λ u m. set_min_le b.high t (k - 1) u }
  keep_at_tighter true t b = record { lows = λ u m. le_set_max b.low t k u; highs = λ u m. omega arith }

-- Sound placings --------------------------------------------------------------

module _ {slots : ℕ} {ds : List Demand} {p : Schedule} where
  pub tighter_sound : {b c : Bounds} → Tighter slots b c → SoundUnder slots ds c p → SoundUnder slots ds b p
  tighter_sound h s = record {
    for_each = s.for_each;
    served = s.served;
    bounded = λ t l. omega (arith, h.lows t l, h.highs t l, s.bounded t l);
  }

  -- a sound placing in which slot t + 1 meets the blower's bound is sound where the blower keeps to it
  pub keep_at_sound : (k : ℕ) (busy : Bool) (t : ℕ) {b : Bounds} → Sized slots b → t < slots → SoundUnder slots ds b p → Meets (load slots p) k busy t
      → SoundUnder slots ds (keep_at k busy t b) p
  keep_at_sound k false t {b} z l s m = sound_set_high s t l z.each_high (min (k - 1) (get_or b.high t 0)) (omega (arith, s.bounded t l))
  keep_at_sound k true t {b} z l s m = sound_set_low s t l z.each_low (max k (get_or b.low t 0)) (omega (arith, s.bounded t l))

-- in each slot a placing is on one side or on the other
pub meets_or : (loads : List ℕ) (k : ℕ) (busy : Bool) (t : ℕ) → Meets loads k busy t ⊎ Meets loads k (not busy) t
meets_or loads k busy t = go busy (le_or_lt k (get_or loads t 0))
  where
    go : (busy : Bool) → (k ≤ get_or loads t 0) ⊎ (get_or loads t 0 < k) → Meets loads k busy t ⊎ Meets loads k (not busy) t
    go false (inl a) = inr a
    go false (inr a) = inl (omega arith)
    go true (inl a) = inl a
    go true (inr a) = inr (omega arith)

-- Staying and changing over ---------------------------------------------------

module _ (slots : ℕ) (ds : List Demand) (k : ℕ) (busy : Bool) (t : ℕ) (b : Bounds) where
  pub busy_at_stays : feasible_under slots ds (keep_at k busy t b) ≡ true → busy_at slots ds k busy t b ≡ busy
  unfolding busy_at
  busy_at_stays e = rw e

  pub busy_at_changes : feasible_under slots ds (keep_at k busy t b) ≡ false → busy_at slots ds k busy t b ≡ not busy
  unfolding busy_at
  busy_at_changes e = rw e

  -- one step of the slotwise form
  module _ (n : ℕ) where
    pub settle_from_stays : feasible_under slots ds (keep_at k busy t b) ≡ true
        → settle_from slots ds k busy (suc n) t b ≡ settle_from slots ds k busy n (suc t) (keep_at k busy t b)
    unfolding settle_from
    settle_from_stays e = ap (λ x. settle_from slots ds k x n (suc t) (keep_at k x t b)) (busy_at_stays e)

    pub settle_from_changes : feasible_under slots ds (keep_at k busy t b) ≡ false
        → settle_from slots ds k busy (suc n) t b ≡ settle_from slots ds k (not busy) n (suc t) (keep_at k (not busy) t b)
    unfolding settle_from
    settle_from_changes e = ap (λ x. settle_from slots ds k x n (suc t) (keep_at k x t b)) (busy_at_changes e)

-- FeasibleDay bounds -------------------------------------------------------------

module _ {slots : ℕ} {ds : List Demand} (w : Windows slots ds) where
  pub sound_possible : {b : Bounds} {p : Schedule} → Sized slots b → SoundUnder slots ds b p → feasible_under slots ds b ≡ true
  sound_possible {b} {p} z s = (feasible_iff_sound w b.low b.high z.each_low z.each_high).1 (p, s)

  pub possible_sound : {b : Bounds} → FeasibleDay slots ds b → (p : Schedule) × SoundUnder slots ds b p
  possible_sound {b} h = (feasible_iff_sound w b.low b.high h.sized.each_low h.sized.each_high).0 h.possible

  -- looser bounds keep a sound placing
  pub tighter_possible : {b c : Bounds} → Sized slots b → Tighter slots b c → FeasibleDay slots ds c → FeasibleDay slots ds b
  tighter_possible z h e = record { sized = z; possible = sound_possible z (tighter_sound h (possible_sound e).1) }

  module _ (k : ℕ) (busy : Bool) (t : ℕ) {b : Bounds} (h : FeasibleDay slots ds b) (l : t < slots) where
    -- where a blower cannot be idle it can be busy, and the other way round
    pub other_possible : feasible_under slots ds (keep_at k busy t b) ≡ false → feasible_under slots ds (keep_at k (not busy) t b) ≡ true
    other_possible e = go (meets_or (load slots r.0) k busy t)
      where
        r : (p : Schedule) × SoundUnder slots ds b p
        r = possible_sound h

        sound : (x : Bool) → Meets (load slots r.0) k x t → feasible_under slots ds (keep_at k x t b) ≡ true
        sound x m = sound_possible (keep_at_sized k x t h.sized) (keep_at_sound k x t h.sized l r.1 m)

        go : Meets (load slots r.0) k busy t ⊎ Meets (load slots r.0) k (not busy) t → feasible_under slots ds (keep_at k (not busy) t b) ≡ true
        go (inl m) = absurd (false≢true (sym e ∙ sound busy m))
        go (inr m) = sound (not busy) m

  -- each step keeps a sound placing
  pub busy_at_possible : (k : ℕ) (busy : Bool) (t : ℕ) {b : Bounds} → FeasibleDay slots ds b → t < slots
      → FeasibleDay slots ds (keep_at k (busy_at slots ds k busy t b) t b)
  busy_at_possible k busy t {b} h l = record { sized = keep_at_sized k (busy_at slots ds k busy t b) t h.sized; possible = go (feasible_under slots ds (keep_at k busy t b)) refl }
    where
      go : (x : Bool) → feasible_under slots ds (keep_at k busy t b) ≡ x → feasible_under slots ds (keep_at k (busy_at slots ds k busy t b) t b) ≡ true
      go true e = rw (busy_at_stays slots ds k busy t b e) e
      go false e = rw (busy_at_changes slots ds k busy t b e) (other_possible k busy t h l e)
