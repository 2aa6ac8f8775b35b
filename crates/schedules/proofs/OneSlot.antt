-- One slot's bound changed: a day that has a sound placing keeps one where a slot's high becomes at most k, or one where its low becomes at
-- least k + 1. Assumes nothing.
use Rattle.std.specs.Prelude.{◌≡◌, ◌⊎◌, true, List, ℕ, suc, ◌≤◌, ◌<◌, min, max, length, get_or, set}
use Rattle.std.proofs.Common.{◌∙◌, inl, inr, arith, length-set, get_or-set_same, get_or-set_other}
use Rattle.std.proofs.Math.Decide.{dec_le, ℕ_discrete}
use Rattle.schedules.specs.Schedules.{Demand, Schedule, Sound, Windows, load, feasible}
use Rattle.schedules.proofs.FeasibleLaws.{feasible_sound, sound_feasible}

module _ {slots : ℕ} {ds : List Demand} {low high : List ℕ} {p : Schedule} (s : Sound slots ds low high p) (t : ℕ) (m : t < slots) where
  -- the load of slot t bounds its high from below, and its low from above
  pub sound_set_high : length high ≡ slots → (k : ℕ) → get_or (load slots p) t 0 ≤ k → Sound slots ds low (set high t k) p
  sound_set_high h k b = record { for_each = s.for_each; served = s.served; bounded = go }
    where
      at : (u : ℕ) → u < slots → Dec (u ≡ t) → get_or (load slots p) u 0 ≤ get_or (set high t k) u 0
      at u l (yes e) = rw (e, get_or-set_same high t k 0 (rw h m)) b
      at u l (no n) = rw (get_or-set_other high t u k 0 n) (s.bounded u l).1

      go : (u : ℕ) → u < slots → (get_or low u 0 ≤ get_or (load slots p) u 0) × (get_or (load slots p) u 0 ≤ get_or (set high t k) u 0)
      go u l = ((s.bounded u l).0, at u l (ℕ_discrete u t))

  pub sound_set_low : length low ≡ slots → (k : ℕ) → k ≤ get_or (load slots p) t 0 → Sound slots ds (set low t k) high p
  sound_set_low h k b = record { for_each = s.for_each; served = s.served; bounded = go }
    where
      at : (u : ℕ) → u < slots → Dec (u ≡ t) → get_or (set low t k) u 0 ≤ get_or (load slots p) u 0
      at u l (yes e) = rw (e, get_or-set_same low t k 0 (rw h m)) b
      at u l (no n) = rw (get_or-set_other low t u k 0 n) (s.bounded u l).0

      go : (u : ℕ) → u < slots → (get_or (set low t k) u 0 ≤ get_or (load slots p) u 0) × (get_or (load slots p) u 0 ≤ get_or high u 0)
      go u l = (at u l (ℕ_discrete u t), (s.bounded u l).1)

module _ {slots : ℕ} {ds : List Demand} (w : Windows slots ds) (low high : List ℕ) (l : length low ≡ slots) (h : length high ≡ slots) where
  -- where no sound placing has at most k feedings in the slot, one has at least k + 1
  pub idle_or_busy : feasible slots ds low high ≡ true → (t k : ℕ) → t < slots
      → (feasible slots ds low (set high t (min (get_or high t 0) k)) ≡ true) ⊎ (feasible slots ds (set low t (max (get_or low t 0) (suc k))) high ≡ true)
  idle_or_busy e t k m = go (feasible_sound w l h e)
    where
      go : (p : Schedule) × Sound slots ds low high p
          → (feasible slots ds low (set high t (min (get_or high t 0) k)) ≡ true) ⊎ (feasible slots ds (set low t (max (get_or low t 0) (suc k))) high ≡ true)
      go (p, s) = at (dec_le (get_or (load slots p) t 0) k)
        where
          at : Dec (get_or (load slots p) t 0 ≤ k)
              → (feasible slots ds low (set high t (min (get_or high t 0) k)) ≡ true) ⊎ (feasible slots ds (set low t (max (get_or low t 0) (suc k))) high ≡ true)
          at (yes b) =
              inl (sound_feasible w l (length-set high t (min (get_or high t 0) k) ∙ h)
              (sound_set_high s t m h (min (get_or high t 0) k) (omega (arith, s.bounded t m))))
          at (no b) =
              inr (sound_feasible w (length-set low t (max (get_or low t 0) (suc k)) ∙ l) h
              (sound_set_low s t m l (max (get_or low t 0) (suc k)) (omega (arith, s.bounded t m))))
