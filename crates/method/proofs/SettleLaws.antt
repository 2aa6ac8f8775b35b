-- What settling leaves: every step keeps a sound placing and tightens the bounds; each blower decides each slot, and what it decides is kept; at the
-- end low equals high. Assumes nothing.
use Rattle.std.specs.Prelude.{◌≡◌, true, List, map, leb, length, get_or}
use Rattle.std.proofs.Math.Path.{refl, sym, ap}
use Rattle.std.proofs.Common.{◌∙◌, get_or-set_same, le-leb}
use Rattle.std.proofs.Math.Bool.{Bool, false}
use Prim.Native.Nat.{ℕ, zero, suc, ◌+◌, ◌-◌, ◌≤◌, ◌<◌, min, max}
use native.Mathlib.Omega.{arith}
use Rattle.std.proofs.lemmas.List.{length-map}
use Rattle.std.proofs.Math.Seq.{ext_get_or}
use Rattle.std.proofs.lemmas.Bool.{lt-leb}
use Rattle.schedules.specs.Schedules.{Demand, Schedule, Windows, load}
use Rattle.schedules.specs.Tabulate.{get_d_map_below}
use Rattle.schedules.proofs.AsFunctions.{length_load}
use Rattle.method.specs.Method.{Bounds, Sized, FeasibleDay, settle_all, loads}
use Rattle.method.specs.Slotwise.{keep_at, busy_at, busy_from, settle_from, settle_each}
use Rattle.method.proofs.StepLaws.{SoundUnder, Tighter, tighter_refl, tighter_trans, keep_at_tighter, possible_sound, busy_at_possible}
use Rattle.method.proofs.SlotwiseLaws.{settle_slotwise}

-- slot t + 1 is decided for blower k: its high is at most k − 1, or its low at least k
abbrev pub Decided : (k : ℕ) (busy : Bool) (t : ℕ) → Bounds → Type 0
Decided k false t b = get_or b.high t 0 ≤ k - 1
Decided k true t b = k ≤ get_or b.low t 0

module _ {slots : ℕ} where
  decided_tighter : (k : ℕ) (busy : Bool) (t : ℕ) {b c : Bounds} → t < slots → Tighter slots b c → Decided k busy t b → Decided k busy t c
  decided_tighter k false t l h d = omega (arith, h.highs t l)
  decided_tighter k true t l h d = omega (arith, h.lows t l)

  decided_keep_at : (k : ℕ) (busy : Bool) (t : ℕ) {b : Bounds} → Sized slots b → t < slots → Decided k busy t (keep_at k busy t b)
  decided_keep_at k false t {b} z l = omega (arith, get_or-set_same b.high t (min (k - 1) (get_or b.high t 0)) 0 (rw z.each_high l))
  decided_keep_at k true t {b} z l = omega (arith, get_or-set_same b.low t (max k (get_or b.low t 0)) 0 (rw z.each_low l))

module _ {slots : ℕ} {ds : List Demand} (w : Windows slots ds) where
  -- low is at most high, since a sound placing lies between them
  pub low_le_high : {b : Bounds} → FeasibleDay slots ds b → (t : ℕ) → t < slots → get_or b.low t 0 ≤ get_or b.high t 0
  low_le_high h t l = let r = possible_sound w h in omega (arith, r.1.bounded t l)

  -- One blower ----------------------------------------------------------------

  module _ (k : ℕ) where
    pub length_busy_from : (busy : Bool) (n t : ℕ) (b : Bounds) → length (busy_from slots ds k busy n t b) ≡ n
    unfolding busy_from
    length_busy_from busy zero t b = refl
    length_busy_from busy (suc n) t b = ap suc (length_busy_from (busy_at slots ds k busy t b) n (suc t) _)

    pub settle_from_tighter : (busy : Bool) (n t : ℕ) (b : Bounds) → Tighter slots b (settle_from slots ds k busy n t b)
    unfolding settle_from
    settle_from_tighter busy zero t b = tighter_refl
    settle_from_tighter busy (suc n) t b = tighter_trans (keep_at_tighter k (busy_at slots ds k busy t b) t b) (settle_from_tighter (busy_at slots ds k busy t b) n (suc t) _)

    pub settle_from_possible : (busy : Bool) (n t : ℕ) {b : Bounds} → FeasibleDay slots ds b → t + n ≡ slots → FeasibleDay slots ds (settle_from slots ds k busy n t b)
    unfolding settle_from
    settle_from_possible busy zero t h e = h
    settle_from_possible busy (suc n) t {b} h e =
        settle_from_possible (busy_at slots ds k busy t b) n (suc t) (busy_at_possible w k busy t h (omega arith)) (omega arith)

    -- each slot is decided as the blower chooses in it
    pub settle_from_decided : (busy : Bool) (n t : ℕ) {b : Bounds} → FeasibleDay slots ds b → t + n ≡ slots → (i : ℕ) → i < n
        → Decided k (get_or (busy_from slots ds k busy n t b) i false) (t + i) (settle_from slots ds k busy n t b)
    unfolding settle_from busy_from
    settle_from_decided busy zero t h e i l = absurd (omega arith)
    settle_from_decided busy (suc n) t {b} h e zero l =
        let x : Bool = busy_at slots ds k busy t b in
        let here : t + 0 ≡ t = omega arith in
        rw here (decided_tighter k x t (omega arith) (settle_from_tighter x n (suc t) (keep_at k x t b)) (decided_keep_at k x t h.sized (omega arith)))
    settle_from_decided busy (suc n) t {b} h e (suc i) l =
        let later : t + suc i ≡ suc t + i = omega arith in
        rw later (settle_from_decided (busy_at slots ds k busy t b) n (suc t) (busy_at_possible w k busy t h (omega arith)) (omega arith) i (omega arith))

  -- All blowers ---------------------------------------------------------------

  pub settle_all_slotwise : (k : ℕ) {b : Bounds} → FeasibleDay slots ds b → settle_all slots ds k b ≡ settle_each slots ds k b
  unfolding settle_all settle_each
  settle_all_slotwise zero h = refl
  settle_all_slotwise (suc k) {b} h =
      ap (settle_all slots ds k) (settle_slotwise w (suc k) h) ∙ settle_all_slotwise k (settle_from_possible (suc k) false slots 0 h (omega arith))

  pub loads_slotwise : (k : ℕ) {b : Bounds} → FeasibleDay slots ds b → loads slots ds k b ≡ (settle_each slots ds k b).low
  unfolding loads
  loads_slotwise k h = ap (λ (c : Bounds). c.low) (settle_all_slotwise k h)

  pub settle_each_tighter : (k : ℕ) (b : Bounds) → Tighter slots b (settle_each slots ds k b)
  unfolding settle_each
  settle_each_tighter zero b = tighter_refl
  settle_each_tighter (suc k) b = tighter_trans (settle_from_tighter (suc k) false slots 0 b) (settle_each_tighter k _)

  pub settle_each_possible : (k : ℕ) {b : Bounds} → FeasibleDay slots ds b → FeasibleDay slots ds (settle_each slots ds k b)
  unfolding settle_each
  settle_each_possible zero h = h
  settle_each_possible (suc k) h = settle_each_possible k (settle_from_possible (suc k) false slots 0 h (omega arith))

  -- at the end low equals high, where high began at most the number of blowers
  settled_entry : (m : ℕ) {b : Bounds} → FeasibleDay slots ds b → (t : ℕ) → t < slots → get_or b.high t 0 ≤ m
      → get_or (settle_each slots ds m b).low t 0 ≡ get_or (settle_each slots ds m b).high t 0
  unfolding settle_each
  settled_entry zero h t l e = omega (arith, low_le_high h t l)
  settled_entry (suc m) {b} h t l e =
      go (get_or (busy_from slots ds (suc m) false slots 0 b) t false) (rw here at (settle_from_decided (suc m) false slots 0 h (omega arith) t l))
      (settled_entry m next t l)
    where
      c : Bounds
      c = settle_from slots ds (suc m) false slots 0 b

      here : 0 + t ≡ t
      here = omega arith

      next : FeasibleDay slots ds c
      next = settle_from_possible (suc m) false slots 0 h (omega arith)

      go : (x : Bool) → Decided (suc m) x t c
          → (get_or c.high t 0 ≤ m → get_or (settle_each slots ds m c).low t 0 ≡ get_or (settle_each slots ds m c).high t 0)
          → get_or (settle_each slots ds m c).low t 0 ≡ get_or (settle_each slots ds m c).high t 0
      go false d ih = ih (omega arith)
      go true d ih =
          omega (
            arith,
            (settle_from_tighter (suc m) false slots 0 b).highs t l,
            (settle_each_tighter m c).lows t l,
            (settle_each_tighter m c).highs t l,
            low_le_high (settle_each_possible m next) t l,
          )

  pub settled_low_high : (m : ℕ) {b : Bounds} → FeasibleDay slots ds b → ((t : ℕ) → t < slots → get_or b.high t 0 ≤ m)
      → (settle_each slots ds m b).low ≡ (settle_each slots ds m b).high
  settled_low_high m {b} h e =
      let z = (settle_each_possible m h).sized in
      ext_get_or 0 (settle_each slots ds m b).low (settle_each slots ds m b).high (z.each_low ∙ sym z.each_high)
      (λ t l. let i = rw z.each_low at l in settled_entry m h t i (e t i))

  -- the count of a slot is at least k exactly where blower k chose to be busy
  pub counts_busy_from : (k : ℕ) {b : Bounds} → FeasibleDay slots ds b
      → map (leb (suc k)) (settle_each slots ds (suc k) b).low ≡ busy_from slots ds (suc k) false slots 0 b
  unfolding settle_each
  counts_busy_from k {b} h =
      ext_get_or false (map (leb (suc k)) d.low) xs (length-map d.low (leb (suc k)) ∙ z.each_low ∙ sym (length_busy_from (suc k) false slots 0 b))
      (λ t l. entry t (rw (length-map d.low (leb (suc k)) ∙ z.each_low) at l))
    where
      c : Bounds
      c = settle_from slots ds (suc k) false slots 0 b

      d : Bounds
      d = settle_each slots ds k c

      xs : List Bool
      xs = busy_from slots ds (suc k) false slots 0 b

      final : FeasibleDay slots ds d
      final = settle_each_possible k (settle_from_possible (suc k) false slots 0 h (omega arith))

      z : Sized slots d
      z = final.sized

      side : (x : Bool) (t : ℕ) → t < slots → Decided (suc k) x t d → leb (suc k) (get_or d.low t 0) ≡ x
      side false t l q = lt-leb (suc k) (get_or d.low t 0) (omega (arith, low_le_high final t l))
      side true t l q = le-leb (suc k) (get_or d.low t 0) q

      entry : (t : ℕ) → t < slots → get_or (map (leb (suc k)) d.low) t false ≡ get_or xs t false
      entry t l =
          let here : 0 + t ≡ t = omega arith in
          get_d_map_below (leb (suc k)) d.low t false 0 (rw z.each_low l)
          ∙ side (get_or xs t false) t l
          (decided_tighter (suc k) (get_or xs t false) t l (settle_each_tighter k c) (rw here at (settle_from_decided (suc k) false slots 0 h (omega arith) t l)))

  -- The counts ----------------------------------------------------------------

  length_sound : {c : Bounds} {p : Schedule} → SoundUnder slots ds c p → length (load slots p) ≡ slots
  length_sound {p = p} s = length_load p (λ j l. let i = rw s.for_each at l in (s.served j i).same_day ∙ w.all_day j i)

  -- where low equals high, every sound placing has these loads
  pub sound_load : {c : Bounds} {p : Schedule} → Sized slots c → c.low ≡ c.high → SoundUnder slots ds c p → load slots p ≡ c.low
  sound_load {c} {p} z e s =
      ext_get_or 0 (load slots p) c.low (length_sound s ∙ sym z.each_low)
      (λ t l. omega (arith, s.bounded t (rw (length_sound s) at l), ap (λ (xs : List ℕ). get_or xs t 0) e))
