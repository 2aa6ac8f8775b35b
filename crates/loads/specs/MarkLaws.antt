-- What the marks of `mark_over` and `mark_excess` are: the slots contained in every set of greatest shortfall, or of
-- greatest excess. Assumes nothing.
use Rattle.std.specs.Prelude.{◌≡◌, refl, ◌⊎◌, ◌≢◌, Bool, true, false, ℕ, ◌+◌, ◌-◌, ◌≤◌, ◌<◌, min, eqb, ltb, length, set, replicate}
use Rattle.std.proofs.Common.{sym, ap, ◌∙◌, inl, inr, length-set, get_or-set_same, get_or-set_other, set-set, eq-eqb, ne_eqb, lt-ltb, le-ltb}
use Rattle.std.proofs.Math.Path.{subst}
use mathlib.Core.List.{List}
use Rattle.std.proofs.Math.Decide.{dec_lt, ℕ_discrete}
use native.Mathlib.Omega.{arith}
use Rattle.std.proofs.lemmas.List.{length-replicate, set-get_or}
use Rattle.loads.specs.Theory.{count, Critical, critical_highs, CriticalExcess, exchange_excess, excess_cong, excess_higher, excess_alone, low_le_possible}
use Rattle.grid.specs.Grid.{slots, at, Seen, Rearranged}
use Rattle.grid.specs.MarkLaws.{at_replicate}
use Rattle.loads.specs.Relief.{Over, Held, Within, Towards, Lowered, OverMarked, ExcessMarked, width}
use Rattle.loads.specs.Meaning.{bit_at, seen_at, Places, State, put}
use Rattle.loads.specs.MeaningLaws.{seen_seen_at, count_load, count_width, places_placing, places_moved, places_exchange}
use Rattle.loads.specs.HeldLaws.{held_critical}
use Rattle.loads.specs.ExchangeLaws.{rearranged_exchange}
use Rattle.loads.specs.StateLaws.{put_same, put_other, low_load, new_high, towards_kept}
use Rattle.loads.specs.RaiseLaws.{new_spare, spares_kept}

-- ---- the code

pub spare_is : {all w h : ℕ} (k : ℕ) → all ≡ w → h ≡ all - k → h ≡ w - k
spare_is k e f = f ∙ ap (λ x. x - k) e

module _ {F R H : List ℕ} {t h : ℕ} {r : Bool} {F' R' H' S' : List ℕ} (w : Lowered r F R H F' R' H' S' t h) where
  -- slot t can have the high: it is set back, and slot t alone is marked
  pub marked_alone : r ≡ true → OverMarked F R H F' R' (set H' t (at H t)) (set (replicate slots 0) t 1) t h
  marked_alone e =
      record {
        moved = w.moved;
        towards = w.towards;
        highs = ap (λ (c : List ℕ). set c t (at H t)) (w.done e).0 ∙ set-set H t h (at H t) ∙ set-get_or H t 0;
        long = length-set {A = ℕ} (replicate slots 0) t 1 ∙ length-replicate {A = ℕ} slots 0;
        marked = inr (subst (Within F') (w.done e).0 (w.done e).1, refl);
      }

  pub marked_held : r ≡ false → OverMarked F R H F' R' H' S' t h
  marked_held e =
      record {
        moved = w.moved;
        towards = w.towards;
        highs = (w.held e).0;
        long = (w.held e).1.stuck.marks;
        marked = inl (w.held e).1;
      }

pub marked_excess_of : {F R C F' R' C' S' : List ℕ} {t h : ℕ} (k : ℕ) → h ≡ width F R t - k → OverMarked R F C R' F' C' S' t h → ExcessMarked F R C F' R' C' S' t k
marked_excess_of {F} {R} {C} {F'} {R'} {C'} {S'} {t} k e o = subst (OverMarked R F C R' F' C' S' t) e o

-- ---- marks on one slot

-- slot t alone
alone_seen : (n t u : ℕ) → t < n → eqb u t ≡ seen_at (set (replicate n 0) t 1) u
unfolding seen_at
alone_seen n t u l = go (ℕ_discrete u t)
  where
    long : t < length {A = ℕ} (replicate n 0)
    long = rw (length-replicate {A = ℕ} n 0) l

    go : Dec (u ≡ t) → eqb u t ≡ ltb 0 (at (set (replicate n 0) t 1) u)
    go (yes e) =
        let x : 0 < at (set (replicate n 0) t 1) u = rw e (omega (arith, get_or-set_same {A = ℕ} (replicate n 0) t 1 0 long)) in
        eq-eqb u t e ∙ sym (lt-ltb 0 _ x)
    go (no x) =
        let y : at (set (replicate n 0) t 1) u ≤ 0 = omega (arith, get_or-set_other {A = ℕ} (replicate n 0) t u 1 0 x, at_replicate n u) in
        ne_eqb u t x ∙ sym (le-ltb 0 _ y)

-- ---- a high set lower

module _ {n d : ℕ} {free : ℕ → ℕ → Bool} {v low high : ℕ → ℕ} {F R H C : List ℕ} (s : State n d free v low high F R H C)
    {t h : ℕ} (l : t < d) {F' R' H' S' : List ℕ} (w : OverMarked F R H F' R' H' S' t h) where
  -- the words hold a placing within the bounds as before
  pub over_kept : low t ≤ h → h ≤ high t → State n d free v low high F' R' H' C
  over_kept lo hi = towards_kept s t h l w.moved w.towards lo hi w.highs

  -- where this placing does not keep every high with h in slot t, the marks are the least set of greatest shortfall
  pub over_critical : (((u : ℕ) → u < d → count n (bit_at F') u ≤ put high t h u) → ⊥) → Critical n d free v (put high t h) (seen_at S')
  over_critical fails = critical_highs (new_high s t h l) (go w.marked)
    where
      places : Places n d free v F' R'
      places = places_moved s.places w.moved

      go : Held F' R' (set H t h) S' ⊎ (Within F' (set H t h) × (S' ≡ set (replicate slots 0) t 1)) → Critical n d free v (at (set H t h)) (seen_at S')
      go (inl x) = held_critical places x
      go (inr (within, e)) = absurd (fails (λ u m. omega (arith, within u, new_high s t h l u m, count_load places.day u)))

-- ---- a low set higher

module _ {n d : ℕ} {free : ℕ → ℕ → Bool} {v low high : ℕ → ℕ} {F R H C : List ℕ} (s : State n d free v low high F R H C)
    {t k : ℕ} (l : t < d) (lo : low t ≤ k) (hi : k ≤ high t) {F' R' C' S' : List ℕ} (w : ExcessMarked F R C F' R' C' S' t k) where
  moved : Rearranged F R F' R'
  moved = rearranged_exchange w.moved

  places : Places n d free v F' R'
  places = places_moved s.places moved

  -- the low that the words can have
  reachable : ℕ
  reachable = min k (width F R t)

  same_spare : width F R t - k ≡ width F R t - reachable
  unfolding reachable
  same_spare = omega arith

  towards : Towards R (set C t (width F R t - reachable)) R'
  towards = subst (λ (h : ℕ). Towards R (set C t h) R') same_spare w.towards

  low_le : low t ≤ reachable
  unfolding reachable
  low_le = omega (arith, low_load s t l)

  reachable_high : reachable ≤ high t
  unfolding reachable
  reachable_high = omega arith

  reachable_wide : reachable ≤ width F R t
  unfolding reachable
  reachable_wide = omega arith

  spare : (u : ℕ) → u < d → at (set C t (width F R t - k)) u + put low t reachable u ≡ count n free u
  spare = rw same_spare (new_spare s t reachable l reachable_high reachable_wide moved towards)

  -- the words hold a placing within the bounds as before
  pub marked_kept : State n d free v low high F' R' H C'
  marked_kept = spares_kept s t reachable l reachable_high reachable_wide moved towards low_le w.highs

  higher : put low t reachable t ≤ put low t k t
  unfolding reachable
  higher = omega (arith, put_same low t reachable, put_same low t k)

  others : (u : ℕ) → u < d → u ≢ t → put low t reachable u ≡ put low t k u
  others u m x = put_other low t reachable u x ∙ sym (put_other low t k u x)

  -- only slot t can hold too much on the exchanged words
  over_is_t : (u : ℕ) → Over R' (set C t (width F R t - k)) u → u ≡ t
  over_is_t u o = go (ℕ_discrete u t)
    where
      go : Dec (u ≡ t) → u ≡ t
      go (yes e) = e
      go (no x) = absurd (omega (arith, w.towards u, get_or-set_other C t u (width F R t - k) 0 x, s.rest_within u))

  by_held : Held R' F' (set C t (width F R t - k)) S' → CriticalExcess n d free v (put low t k) (seen_at S')
  by_held h =
      excess_higher t l higher others
      (seen_seen_at S' t (subst (Seen S') (over_is_t h.some.0 h.some.1) (h.over h.some.0 h.some.1)))
      (exchange_excess spare (held_critical (places_exchange places) h))

  -- no load goes below the low that the words can have, where the exchanged words go so far
  low_kept : Within R' (set C t (width F R t - k)) → (u : ℕ) → u < d → put low t reachable u ≤ count n (bit_at F') u
  low_kept within u m = omega (arith, within u, spare u m, count_width places.day u m, count_load places.day u)

  by_alone : width F R t < k → Within R' (set C t (width F R t - k)) → S' ≡ set (replicate slots 0) t 1
      → CriticalExcess n d free v (put low t k) (seen_at S')
  unfolding reachable
  by_alone narrow within e =
      subst (λ (S : List ℕ). CriticalExcess n d free v (put low t k) (seen_at S)) (sym e)
      (excess_cong (λ u m. alone_seen slots t u (omega (arith, s.places.day.short)))
      (excess_alone t l higher others
      (λ Q. low_le_possible (places_placing places) Q (low_kept within))
      (omega (arith, put_same low t reachable, count_width s.places.day t l)) (omega (arith, put_same low t reachable, put_same low t k))))

  -- where this placing does not keep every low with k in slot t, the marks are the least set of greatest excess
  pub marked_excess : (((u : ℕ) → u < d → put low t k u ≤ count n (bit_at F') u) → ⊥) → CriticalExcess n d free v (put low t k) (seen_at S')
  unfolding reachable
  marked_excess fails = go w.marked
    where
      narrow : Within R' (set C t (width F R t - k)) → Dec (width F R t < k) → width F R t < k
      narrow within (yes x) = x
      narrow within (no x) =
          let e : reachable ≡ k = omega arith in absurd (fails (λ u m. subst (λ (y : ℕ). put low t y u ≤ count n (bit_at F') u) e (low_kept within u m)))

      go : Held R' F' (set C t (width F R t - k)) S' ⊎ (Within R' (set C t (width F R t - k)) × (S' ≡ set (replicate slots 0) t 1))
          → CriticalExcess n d free v (put low t k) (seen_at S')
      go (inl h) = by_held h
      go (inr (within, e)) = by_alone (narrow within (dec_lt (width F R t) k)) within e
