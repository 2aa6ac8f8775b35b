-- Slot by slot or by stretches, the two forms of the demand say the same. Assumes nothing.
use Rattle.std.specs.Prelude.{◌≡◌, refl, ◌⊎◌, true, false, not, ℕ, zero, suc, ◌-◌, ◌≤◌, ◌<◌, length}
use Rattle.std.proofs.Common.{sym, ◌∙◌, ap, subst, inl, inr, eq-or-lt_of_le, arith}
use mathlib.Core.List.{List, [], Memᴰ}
use Rattle.schedules.specs.Schedules.{Schedule, load}
use Rattle.method.specs.Intervals.{Interval, intervals, busy_in, LongestRun}
use Rattle.method.specs.Keeping.{Meets, Keeps, no_slots, stretches, KeepsBefore}
use Rattle.method.proofs.Cases.{le_or_lt}
use Rattle.method.proofs.IntervalLaws.{interval_longest, interval_covers, interval_earlier, not_same}
use Rattle.method.proofs.KeepingLaws.{interval_stretch, no_slots_stretch, stretch_cases}
use Rattle.method.specs.StopsAt.{so_far, Follows, StopsAt, StretchesStopFrom}

module _ {slots m : ℕ} (counts : List ℕ) (long : length counts ≡ slots) (loads : List ℕ) where
  -- loads that do what the counts say keep the stretches settled before
  follows_keeps : (k e : ℕ) → Follows slots m counts loads k e → (j : ℕ) (u : Interval) → Memᴰ u (stretches counts j)
      → ((t : ℕ) → suc t ≤ u.last → ((k < j) × (j ≤ m)) ⊎ ((j ≡ k) × (t < e))) → Keeps loads j u
  follows_keeps k e f j u i settled = go (stretch_cases counts j u i)
    where
      go : Memᴰ u (intervals counts j) ⊎ (u ≡ no_slots) × ((0 < length counts) × (busy_in counts j 0 ≡ true)) → Keeps loads j u
      go (inr (q, _)) = λ t x y. absurd (omega (arith, ap (λ (z : Interval). z.first) q, ap (λ (z : Interval). z.last) q))
      go (inl n) =
          let r = (interval_longest counts j u).0 n in
          λ t x y. subst (λ b. Meets loads j b t) (r.throughout t x y) (f j t (omega (arith, r.stops, long)) (settled t y))

  -- and the other way round
  keeps_follows : (k : ℕ) → k ≤ m → (v : Interval) → Memᴰ v (stretches counts k) → KeepsBefore m counts loads k v → Keeps loads k v
      → Follows slots m counts loads k v.last
  keeps_follows k most v i before this j t l (inl q) =
      let c = interval_covers counts j t (rw long l) in
      let r = (interval_longest counts j c.0).0 c.1 in
      subst (λ b. Meets loads j b t) (sym (r.throughout t c.2 c.3))
      (before j c.0 q.1 (interval_stretch counts j c.0 c.1) (inl q.0) t c.2 c.3)
  keeps_follows k most v i before this j t l (inr q) = subst (λ x. Meets loads x (busy_in counts x t) t) (sym q.0) (go (stretch_cases counts k v i))
    where
      go : Memᴰ v (intervals counts k) ⊎ (v ≡ no_slots) × ((0 < length counts) × (busy_in counts k 0 ≡ true)) → Meets loads k (busy_in counts k t) t
      go (inr (e, _)) = absurd (omega (arith, q.1, ap (λ (z : Interval). z.last) e))
      go (inl n) = pick (le_or_lt v.first (suc t))
        where
          r : LongestRun (busy_in counts k) (length counts) 0 v
          r = (interval_longest counts k v).0 n

          met : (u : Interval) → Memᴰ u (intervals counts k) → u.first ≤ suc t → suc t ≤ u.last → Keeps loads k u → Meets loads k (busy_in counts k t) t
          met u o x y z = subst (λ b. Meets loads k b t) (sym (((interval_longest counts k u).0 o).throughout t x y)) (z t x y)

          pick : (v.first ≤ suc t) ⊎ (suc t < v.first) → Meets loads k (busy_in counts k t) t
          pick (inl d) = met v n d (omega (arith, q.1)) this
          pick (inr d) =
              let u = interval_earlier counts k v n t d in
              met u.0 u.1 u.2 u.3 (before k u.0 most (interval_stretch counts k u.0 u.1) (inr (refl, omega (arith, u.4, r.filled))))

module _ {slots m c : ℕ} {May : Schedule → Type 0} (counts : List ℕ) (long : length counts ≡ slots) where
  -- slot by slot, from the stretches
  pub stops_at : StretchesStopFrom slots m c May counts → StopsAt slots m c May counts
  stops_at stop k zero o l b d e p f g = stop k no_slots o l (no_slots_stretch counts k (rw long d) e) b d p kept (λ t x y. absurd (omega arith), g)
    where
      kept : KeepsBefore m counts (load slots p) k no_slots
      kept j u a i (inl q) = follows_keeps counts long (load slots p) k 0 f j u i (λ t y. inl (q, a))
      kept j u a i (inr q) = absurd (omega (arith, q.1))
  stops_at stop k (suc e) o l b d change p f g = stop k v o l (interval_stretch counts k v w.1) (rw last b) (rw last d) p kept (this, carried)
    where
      w : (u : Interval) × Memᴰ u (intervals counts k) × (u.first ≤ suc e) × (suc e ≤ u.last)
      w = interval_covers counts k e (omega (arith, long))

      v : Interval
      v = w.0

      r : LongestRun (busy_in counts k) (length counts) 0 v
      r = (interval_longest counts k v).0 w.1

      same : busy_in counts k e ≡ v.busy
      same = r.throughout e w.2 w.3

      last : v.last ≡ suc e
      last = go (eq-or-lt_of_le w.3)
        where
          go : (suc e ≡ v.last) ⊎ (suc e < v.last) → v.last ≡ suc e
          go (inl q) = sym q
          go (inr q) = absurd (not_same (busy_in counts k e) (same ∙ sym (r.throughout (suc e) (omega (arith, w.2)) q) ∙ change))

      this : Keeps (load slots p) k v
      this = follows_keeps counts long (load slots p) k (suc e) f k v (interval_stretch counts k v w.1) (λ t y. inr (refl, omega (arith, last)))

      carried : Meets (load slots p) k v.busy v.last
      carried = subst (λ x. Meets (load slots p) k v.busy x) (sym last) (subst (λ x. Meets (load slots p) k x (suc e)) same g)

      kept : KeepsBefore m counts (load slots p) k v
      kept j u a i (inl q) = follows_keeps counts long (load slots p) k (suc e) f j u i (λ t y. inl (q, a))
      kept j u a i (inr q) = follows_keeps counts long (load slots p) k (suc e) f j u i (λ t y. inr (q.0, omega (arith, q.1, last)))

  -- and the stretches from that
  pub stretches_stop_from : StopsAt slots m c May counts → StretchesStopFrom slots m c May counts
  stretches_stop_from stop k v o l i b d p before carries = go (stretch_cases counts k v i)
    where
      follows : Follows slots m counts (load slots p) k v.last
      follows = keeps_follows counts long (load slots p) k l v i before carries.0

      go : Memᴰ v (intervals counts k) ⊎ (v ≡ no_slots) × ((0 < length counts) × (busy_in counts k 0 ≡ true)) → ¬ May p
      go (inr (e, (_, x))) =
          let z : v.last ≡ 0 = ap (λ (u : Interval). u.last) e in
          let y : v.busy ≡ false = ap (λ (u : Interval). u.busy) e in
          stop k 0 o l (rw z at b) (rw z at d) x p (rw z at follows) (subst (λ u. Meets (load slots p) k u 0) y (subst (λ u. Meets (load slots p) k v.busy u) z carries.1))
      go (inl n) = stop k v.last o l b d (r.after (rw long d) ∙ ap not (sym so_far_lem)) p follows (subst (λ u. Meets (load slots p) k u v.last) (sym so_far_lem) carries.1)
        where
          r : LongestRun (busy_in counts k) (length counts) 0 v
          r = (interval_longest counts k v).0 n

          so_far_lem : so_far counts k v.last ≡ v.busy
          so_far_lem =
              let t : ℕ = v.last - 1 in
              let e : v.last ≡ suc t = omega (arith, r.begins, r.filled) in
              ap (so_far counts k) e ∙ r.throughout t (omega (arith, r.begins, r.filled)) (omega arith)
