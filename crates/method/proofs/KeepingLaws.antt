-- Stretches that stop: no sound placing that keeps all stretches settled before one carries it further. A placing that has kept to every choice
-- so far is sound under the bounds settled so far; where a blower changes over, none such can go on as before. Assumes nothing.
use Rattle.std.specs.Prelude.{◌≡◌, ◌⊎◌, not, cond, leb, get_or}
use Rattle.std.proofs.Math.Path.{refl, sym}
use Rattle.std.proofs.Common.{◌∙◌, ap, subst, eq-or-lt_of_le, leb-true, leb-false}
use Rattle.std.proofs.Math.Logic.{inl, inr}
use Rattle.std.proofs.Math.Bool.{Bool, true, false}
use mathlib.Core.List.Memᴰ
use mathlib.Core.List.{List, [], ◌∷◌, Memᴰ}
use Prim.Native.Nat.{ℕ, zero, suc, ◌+◌, ◌-◌, ◌≤◌, ◌<◌}
use native.Mathlib.Omega.{arith}
use Rattle.std.proofs.Math.ListN.{length}
use Rattle.schedules.specs.Schedules.{Demand, Schedule, Windows, load}
use Rattle.schedules.specs.Tabulate.{get_d_map_below}
use Rattle.method.specs.Method.{Bounds, FeasibleDay}
use Rattle.method.specs.Intervals.{Interval, intervals, busy_in, LongestRun}
use Rattle.method.specs.Keeping.{Meets, Keeps, Carries, no_slots, with_no_slots, stretches, KeepsBefore}
use Rattle.method.specs.Slotwise.{keep_at, busy_at, busy_from, settle_from, settle_each}
use Rattle.method.proofs.Cases.{le_or_lt}
use Rattle.method.proofs.StepLaws.{SoundUnder, keep_at_sized, keep_at_sound, sound_possible, busy_at_stays, busy_at_possible}
use Rattle.method.proofs.SettleLaws.{settle_from_possible, settle_each_possible, counts_busy_from}
use Rattle.method.proofs.IntervalLaws.{Fill, fill_le, intervals_fill, interval_longest, interval_covers, interval_earlier, not_same}

-- Which stretches there are ---------------------------------------------------

module _ (counts : List ℕ) (k : ℕ) where
  pub interval_stretch : (v : Interval) → Memᴰ v (intervals counts k) → Memᴰ v (stretches counts k)
  unfolding stretches
  interval_stretch v m = go (intervals counts k) m
    where
      go : (vs : List Interval) → Memᴰ v vs → Memᴰ v (with_no_slots vs)
      go [] m = m
      go (u ∷ us) m = step u.busy
        where
          step : (x : Bool) → Memᴰ v (cond x (no_slots ∷ u ∷ us) (u ∷ us))
          step true = Memᴰ.tail m
          step false = m

  -- a blower busy from slot 1 has the idle stretch without slots
  pub no_slots_stretch : 0 < length counts → busy_in counts k 0 ≡ true → Memᴰ no_slots (stretches counts k)
  unfolding stretches
  no_slots_stretch l e = go (intervals counts k) (intervals_fill counts k)
    where
      go : (vs : List Interval) → Fill (busy_in counts k) (length counts) 0 vs → Memᴰ no_slots (with_no_slots vs)
      go [] n = absurd (omega (arith, n))
      go (u ∷ us) (r, n) =
          let b : u.busy ≡ true = sym (r.throughout 0 (omega (arith, r.begins)) (omega (arith, r.begins, r.filled))) ∙ e in
          rw b (Memᴰ.head refl)

  -- a stretch is an interval, or the one without slots of a blower busy from slot 1
  pub stretch_cases : (v : Interval) → Memᴰ v (stretches counts k)
      → Memᴰ v (intervals counts k) ⊎ (v ≡ no_slots) × ((0 < length counts) × (busy_in counts k 0 ≡ true))
  unfolding stretches
  stretch_cases v m = go (intervals counts k) (intervals_fill counts k) m
    where
      go : (vs : List Interval) → Fill (busy_in counts k) (length counts) 0 vs → Memᴰ v (with_no_slots vs)
          → Memᴰ v vs ⊎ (v ≡ no_slots) × ((0 < length counts) × (busy_in counts k 0 ≡ true))
      go [] n m = inl m
      go (u ∷ us) (r, n) m = step u.busy refl m
        where
          pick : u.busy ≡ true → (v ≡ no_slots) ⊎ Memᴰ v (u ∷ us)
              → Memᴰ v (u ∷ us) ⊎ (v ≡ no_slots) × ((0 < length counts) × (busy_in counts k 0 ≡ true))
          pick e (inl q) =
              let i : 0 < length counts = omega (arith, r.begins, r.filled, fill_le (busy_in counts k) (length counts) u.last us n) in
              inr (q, (i, r.throughout 0 (omega (arith, r.begins)) (omega (arith, r.begins, r.filled)) ∙ e))
          pick e (inr q) = inl q

          step : (x : Bool) → u.busy ≡ x → Memᴰ v (cond x (no_slots ∷ u ∷ us) (u ∷ us))
              → Memᴰ v (u ∷ us) ⊎ (v ≡ no_slots) × ((0 < length counts) × (busy_in counts k 0 ≡ true))
          step true e m = pick e (Memᴰ.cases_cons m)
          step false e m = inl m

-- the loads that the stretches are read off keep all of them
pub stretch_kept : (counts : List ℕ) (k : ℕ) (v : Interval) → Memᴰ v (stretches counts k) → Keeps counts k v
stretch_kept counts k v m = go (stretch_cases counts k v m)
  where
    meets : (x : Bool) (t : ℕ) → busy_in counts k t ≡ x → Meets counts k x t
    meets false t e = omega (arith, leb-false k (get_or counts t 0) e)
    meets true t e = leb-true k (get_or counts t 0) e

    go : Memᴰ v (intervals counts k) ⊎ (v ≡ no_slots) × ((0 < length counts) × (busy_in counts k 0 ≡ true)) → Keeps counts k v
    go (inl i) t a b = meets v.busy t (((interval_longest counts k v).0 i).throughout t a b)
    go (inr (e, _)) t a b = absurd (omega (arith, ap (λ (u : Interval). u.first) e, ap (λ (u : Interval). u.last) e))

-- One blower ------------------------------------------------------------------

module _ {slots : ℕ} {ds : List Demand} (w : Windows slots ds) (k : ℕ) {p : Schedule} where
  -- a sound placing that keeps to every choice of the blower is sound under the bounds it leaves
  pub settle_from_sound : (busy : Bool) (n t : ℕ) {b : Bounds} → FeasibleDay slots ds b → t + n ≡ slots → SoundUnder slots ds b p
      → ((i : ℕ) → i < n → Meets (load slots p) k (get_or (busy_from slots ds k busy n t b) i false) (t + i))
      → SoundUnder slots ds (settle_from slots ds k busy n t b) p
  unfolding settle_from busy_from
  settle_from_sound busy zero t h e s m = s
  settle_from_sound busy (suc n) t {b} h e s m =
      let x : Bool = busy_at slots ds k busy t b in
      let here : t + 0 ≡ t = omega arith in
      settle_from_sound x n (suc t) (busy_at_possible w k busy t h (omega arith)) (omega arith)
      (keep_at_sound k x t h.sized (omega arith) s (rw here at (m 0 (omega arith)))) later
    where
      later : (i : ℕ) → i < n → Meets (load slots p) k (get_or (busy_from slots ds k (busy_at slots ds k busy t b) n (suc t) (keep_at k (busy_at slots ds k busy t b) t b)) i false) (suc t + i)
      later i l = let there : t + suc i ≡ suc t + i = omega arith in rw there at (m (suc i) (omega arith))

  -- one that keeps to every choice before slot t + i + 1, in which the blower changes over, does not go on as before in that slot
  pub change_unsound : (busy : Bool) (n t : ℕ) {b : Bounds} → FeasibleDay slots ds b → t + n ≡ slots → SoundUnder slots ds b p → (i : ℕ) → i < n
      → ((j : ℕ) → j < i → Meets (load slots p) k (get_or (busy_from slots ds k busy n t b) j false) (t + j))
      → get_or (busy_from slots ds k busy n t b) i false ≡ not (get_or (busy ∷ busy_from slots ds k busy n t b) i false)
      → Meets (load slots p) k (get_or (busy ∷ busy_from slots ds k busy n t b) i false) (t + i) → ⊥
  unfolding busy_from
  change_unsound busy zero t h e s i l m c q = absurd (omega arith)
  change_unsound busy (suc n) t {b} h e s zero l m c q =
      let here : t + 0 ≡ t = omega arith in
      let stays = busy_at_stays slots ds k busy t b
      (sound_possible w (keep_at_sized k busy t h.sized) (keep_at_sound k busy t h.sized (omega arith) s (rw here at q))) in
      not_same busy (sym stays ∙ c)
  change_unsound busy (suc n) t {b} h e s (suc i) l m c q =
      let x : Bool = busy_at slots ds k busy t b in
      let here : t + 0 ≡ t = omega arith in
      let there : t + suc i ≡ suc t + i = omega arith in
      change_unsound x n (suc t) (busy_at_possible w k busy t h (omega arith)) (omega arith)
      (keep_at_sound k x t h.sized (omega arith) s (rw here at (m 0 (omega arith)))) i (omega arith) later c (rw there at q)
    where
      later : (j : ℕ) → j < i → Meets (load slots p) k (get_or (busy_from slots ds k (busy_at slots ds k busy t b) n (suc t) (keep_at k (busy_at slots ds k busy t b) t b)) j false) (suc t + j)
      later j l = let there : t + suc j ≡ suc t + j = omega arith in rw there at (m (suc j) (omega arith))

-- All blowers -----------------------------------------------------------------

module _ (slots : ℕ) (ds : List Demand) (k : ℕ) (b : Bounds) where
  -- the counts where blowers k + 1, k, .., 1 are settled, and the choices of blower k + 1
  abbrev counts_of : List ℕ
  counts_of = (settle_each slots ds (suc k) b).low

  abbrev first_busy : List Bool
  first_busy = busy_from slots ds (suc k) false slots 0 b

module _ {slots : ℕ} {ds : List Demand} (w : Windows slots ds) {p : Schedule} where
  module _ (k : ℕ) {b : Bounds} (h : FeasibleDay slots ds b) (s : SoundUnder slots ds b p) where
    each : length (counts_of slots ds k b) ≡ slots
    each = (settle_each_possible w (suc k) h).sized.each_low

    busy_from_are : (t : ℕ) → t < slots → get_or (first_busy slots ds k b) t false ≡ busy_in (counts_of slots ds k b) (suc k) t
    busy_from_are t l =
        ap (λ xs. get_or xs t false) (sym (counts_busy_from w k h)) ∙ get_d_map_below (leb (suc k)) (counts_of slots ds k b) t false 0 (rw each l)

    -- a placing that keeps a stretch keeps to the choices in it
    busy_from_met : (v : Interval) → Memᴰ v (intervals (counts_of slots ds k b) (suc k)) → (t : ℕ) → t < slots → v.first ≤ suc t → suc t ≤ v.last
        → Keeps (load slots p) (suc k) v → Meets (load slots p) (suc k) (get_or (first_busy slots ds k b) t false) (0 + t)
    busy_from_met v m t l a c q =
        let here : 0 + t ≡ t = omega arith in
        let e = busy_from_are t l ∙ ((interval_longest (counts_of slots ds k b) (suc k) v).0 m).throughout t a c in
        rw (e, here) (q t a c)

    -- one that keeps all stretches of the blower is sound under the bounds that the blower leaves
    kept_sound : ((u : Interval) → Memᴰ u (stretches (counts_of slots ds k b) (suc k)) → Keeps (load slots p) (suc k) u)
        → SoundUnder slots ds (settle_from slots ds (suc k) false slots 0 b) p
    kept_sound q = settle_from_sound w (suc k) false slots 0 h (omega arith) s met
      where
        met : (t : ℕ) → t < slots → Meets (load slots p) (suc k) (get_or (first_busy slots ds k b) t false) (0 + t)
        met t l =
            let c = interval_covers (counts_of slots ds k b) (suc k) t (rw each l) in
            busy_from_met c.0 c.1 t l c.2 c.3 (q c.0 (interval_stretch (counts_of slots ds k b) (suc k) c.0 c.1))

    -- a stretch of the blower that stops: no sound placing that keeps the blower's earlier ones carries it further
    stops : (v : Interval) → Memᴰ v (stretches (counts_of slots ds k b) (suc k)) → v.last < slots
        → ((u : Interval) → Memᴰ u (stretches (counts_of slots ds k b) (suc k)) → u.last < v.last → Keeps (load slots p) (suc k) u)
        → Carries (load slots p) (suc k) v → ⊥
    stops v m l q c = go (stretch_cases (counts_of slots ds k b) (suc k) v m)
      where
        counts : List ℕ
        counts = counts_of slots ds k b

        xs : List Bool
        xs = first_busy slots ds k b

        here : (t : ℕ) → 0 + t ≡ t
        here t = omega arith

        without : v ≡ no_slots → 0 < slots → busy_in counts (suc k) 0 ≡ true → ⊥
        without e i x =
            change_unsound w (suc k) false slots 0 h (here slots) s 0 i (λ j a. absurd (omega arith)) (busy_from_are 0 i ∙ x)
            (rw (here 0) (subst (λ (u : Interval). Meets (load slots p) (suc k) u.busy u.last) e c.1))

        interval : Memᴰ v (intervals counts (suc k)) → ⊥
        interval i =
            change_unsound w (suc k) false slots 0 h (here slots) s v.last l met
            (busy_from_are v.last l ∙ r.after (rw each l) ∙ ap not (sym so_far))
            (rw (so_far, here v.last) c.1)
          where
            r : LongestRun (busy_in counts (suc k)) (length counts) 0 v
            r = (interval_longest counts (suc k) v).0 i

            so_far : get_or (false ∷ xs) v.last false ≡ v.busy
            so_far =
                let t : ℕ = v.last - 1 in
                let e : v.last ≡ suc t = omega (arith, r.begins, r.filled) in
                ap (λ n. get_or (false ∷ xs) n false) e ∙ busy_from_are t (omega arith) ∙ r.throughout t (omega (arith, r.begins, r.filled)) (omega arith)

            met : (t : ℕ) → t < v.last → Meets (load slots p) (suc k) (get_or xs t false) (0 + t)
            met t a = pick (le_or_lt v.first (suc t))
              where
                pick : (v.first ≤ suc t) ⊎ (suc t < v.first) → Meets (load slots p) (suc k) (get_or xs t false) (0 + t)
                pick (inl d) = busy_from_met v i t (omega arith) d a c.0
                pick (inr d) =
                    let u = interval_earlier counts (suc k) v i t d in
                    busy_from_met u.0 u.1 t (omega arith) u.2 u.3
                    (q u.0 (interval_stretch counts (suc k) u.0 u.1) (omega (arith, u.4, r.filled)))

        go : Memᴰ v (intervals counts (suc k)) ⊎ (v ≡ no_slots) × ((0 < length counts) × (busy_in counts (suc k) 0 ≡ true)) → ⊥
        go (inl i) = interval i
        go (inr (e, (i, x))) = without e (rw each at i) x

  -- for every blower
  pub stretch_stops : (m : ℕ) {b : Bounds} → FeasibleDay slots ds b → SoundUnder slots ds b p → (k : ℕ) → 1 ≤ k → k ≤ m
      → (v : Interval) → Memᴰ v (stretches (settle_each slots ds m b).low k) → v.last < slots
      → KeepsBefore m (settle_each slots ds m b).low (load slots p) k v → Carries (load slots p) k v → ⊥
  unfolding settle_each
  stretch_stops zero h s k o l v m e q c = omega arith
  stretch_stops (suc m) {b} h s k o l v i e q c =
      go (eq-or-lt_of_le l) (λ t d. stretch_stops m (settle_from_possible w (suc m) false slots 0 h (omega arith)) t k o d v i e)
    where
      go : (k ≡ suc m) ⊎ (k < suc m)
          → (SoundUnder slots ds (settle_from slots ds (suc m) false slots 0 b) p → k ≤ m
          → KeepsBefore m (settle_each slots ds (suc m) b).low (load slots p) k v → Carries (load slots p) k v → ⊥)
          → ⊥
      go (inl a) ih =
          stops m h s v (rw a at i) e (λ u n d. q (suc m) u (omega arith) n (inr (sym a, d))) (rw a at c)
      go (inr a) ih =
          ih (kept_sound m h s (λ u n. q (suc m) u (omega arith) n (inl a))) (omega arith) (λ j u d. q j u (omega arith)) c
