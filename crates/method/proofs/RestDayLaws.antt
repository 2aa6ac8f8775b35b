-- That a stretch stops only where it must, of a whole day whose slots before slot c are fixed (request 112): it follows
-- from the same of the rest. Assumes nothing.
use Rattle.std.specs.Prelude.{◌≡◌, refl, ◌⊎◌, Bool, true, false, not, cond, List, [], ℕ, zero, suc, ◌≤◌, ◌<◌, leb, length, get_or, replicate}
use Rattle.std.proofs.Common.{sym, ◌∙◌, ap, subst, inl, inr, arith, le-leb}
use Rattle.std.proofs.lemmas.Bool.{lt-leb}
use Rattle.schedules.specs.Schedules.{Demand, Schedule, Sound, Windows, load}
use Rattle.schedules.specs.Rest.{rest_demands, rest_high, KeptBefore, SameBefore}
use Rattle.schedules.proofs.RestLaws.{later_part, later_sound, later_load}
use Rattle.method.specs.Intervals.{busy_in}
use Rattle.method.specs.Keeping.{Meets, StretchesStop}
use Rattle.method.proofs.Cases.{le_or_lt}
use Rattle.method.specs.StopsAt.{so_far, Follows, StopsAt, StretchesStopFrom}
use Rattle.method.proofs.StopsAtLaws.{stops_at, stretches_stop_from}

meets_same : (xs ys : List ℕ) (j : ℕ) (b : Bool) (t : ℕ) → get_or xs t 0 ≡ get_or ys t 0 → Meets xs j b t → Meets ys j b t
meets_same xs ys j false t e m = omega arith
meets_same xs ys j true t e m = omega arith

-- what is asked of a placing: that it is sound, contains the kept feedings and no others before slot c
abbrev pub MayBe : (slots c : ℕ) (ds : List Demand) (high : List ℕ) (kept : Schedule) → Schedule → Type 0
MayBe slots c ds high kept p = Sound slots ds (replicate slots 0) high p × SameBefore slots c (length ds) kept p

module _ {slots c : ℕ} {ds : List Demand} {high : List ℕ} {kept : Schedule} (w : Windows slots ds) (o : KeptBefore slots c ds high kept)
    (rest whole : List ℕ) (r : length rest ≡ slots) (h : length whole ≡ slots)
    (early : (t : ℕ) → t < slots → suc t < c → get_or rest t 0 ≡ 0) (late : (t : ℕ) → t < slots → c ≤ suc t → get_or whole t 0 ≡ get_or rest t 0) where
  late_busy : (j t : ℕ) → t < slots → c ≤ suc t → busy_in whole j t ≡ busy_in rest j t
  late_busy j t l b = ap (leb j) (late t l b)

  late_so_far : (k e : ℕ) → e < slots → c ≤ e → so_far whole k e ≡ so_far rest k e
  late_so_far k zero l b = refl
  late_so_far k (suc e) l b = late_busy k e (omega arith) b

  transfer : (m : ℕ) → StopsAt slots m 0 (Sound slots (rest_demands slots c ds kept) (replicate slots 0) (rest_high slots c high)) rest → StopsAt slots m c (MayBe slots c ds high kept) whole
  transfer m stop k e a l b d change p f g (s, same) =
      stop k e a l (omega arith) d (sym (late_busy k e d (omega arith)) ∙ change ∙ ap not (late_so_far k e d b)) q follows
      (meets_same (load slots p) (load slots q) k (so_far rest k e) e (sym (load_late e d (omega arith))) (subst (λ x. Meets (load slots p) k x e) (late_so_far k e d b) g))
      (later_sound w o p s same)
    where
      q : Schedule
      q = later_part slots c (length ds) p

      rows : (j : ℕ) → j < length p → length (get_or p j []) ≡ slots
      rows j i = let n = rw s.for_each at i in (s.served j n).same_day ∙ w.all_day j n

      load_at : (t : ℕ) → t < slots → get_or (load slots q) t 0 ≡ cond (leb c (suc t)) (get_or (load slots p) t 0) 0
      load_at t i = later_load slots c (length ds) p s.for_each rows t i

      load_late : (t : ℕ) → t < slots → c ≤ suc t → get_or (load slots q) t 0 ≡ get_or (load slots p) t 0
      load_late t i n = load_at t i ∙ ap (λ x. cond x (get_or (load slots p) t 0) 0) (le-leb c (suc t) n)

      load_early : (t : ℕ) → t < slots → suc t < c → get_or (load slots q) t 0 ≡ 0
      load_early t i n = load_at t i ∙ ap (λ x. cond x (get_or (load slots p) t 0) 0) (lt-leb c (suc t) n)

      follows : Follows slots m rest (load slots q) k e
      follows j t i settled = go (le_or_lt c (suc t))
        where
          from_one : ((k < j) × (j ≤ m)) ⊎ ((j ≡ k) × (t < e)) → 1 ≤ j
          from_one (inl x) = omega (arith, x.0)
          from_one (inr x) = omega (arith, x.0)

          idle : suc t < c → busy_in rest j t ≡ false
          idle n = lt-leb j (get_or rest t 0) (omega (arith, early t i n, from_one settled))

          go : (c ≤ suc t) ⊎ (suc t < c) → Meets (load slots q) j (busy_in rest j t) t
          go (inl n) =
              meets_same (load slots p) (load slots q) j (busy_in rest j t) t (sym (load_late t i n)) (subst (λ x. Meets (load slots p) j x t) (late_busy j t i n) (f j t i settled))
          go (inr n) = subst (λ x. Meets (load slots q) j x t) (sym (idle n)) (omega (arith, load_early t i n))

  -- whichever stretch of the whole day stops at slot c or later and before the day's end, no such placing that keeps
  -- all stretches settled before it carries it one slot further
  pub whole_stops : (m : ℕ) → StretchesStop slots m (rest_demands slots c ds kept) (replicate slots 0) (rest_high slots c high) rest → StretchesStopFrom slots m c (MayBe slots c ds high kept) whole
  whole_stops m stop = stretches_stop_from whole h (transfer m (stops_at rest r (λ k v a l i b d. stop k v a l i d)))
