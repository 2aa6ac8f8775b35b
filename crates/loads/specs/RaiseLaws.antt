-- What `raise` makes of a placing within lows and highs: another one with slot t's low at k, or the proof that there is
-- none. It is `lower` on the exchanged words, read back. Assumes nothing.
use Rattle.std.specs.Prelude.{◌≡◌, Bool, true, false, ℕ, ◌+◌, ◌-◌, ◌≤◌, ◌<◌, set}
use Rattle.std.proofs.Common.{sym, ◌∙◌, length-set}
use Rattle.std.proofs.Math.Path.{ap}
use mathlib.Core.List.{List}
use Rattle.std.proofs.Math.Decide.{dec_lt}
use native.Mathlib.Omega.{arith}
use Rattle.std.proofs.Math.ListN.{length}
use Rattle.std.proofs.Math.Seq.{get_or-set_same, get_or-set_other}
use Rattle.loads.specs.Theory.{count, Placing, placing_rest, count_rest}
use Rattle.grid.specs.Grid.{at, Rearranged}
use Rattle.loads.specs.Relief.{Within, Towards, width, Raised}
use Rattle.loads.specs.Meaning.{Places, State, put}
use Rattle.loads.specs.MeaningLaws.{count_width, places_moved, places_exchange, day_exchange}
use Rattle.loads.specs.HeldLaws.{held_none}
use Rattle.grid.specs.MarkLaws.{clash, same_along}
use Rattle.loads.specs.StateLaws.{put_same, put_other, at_or_other, within_day, low_load, load_high, widths_kept}

module _ {n d : ℕ} {free : ℕ → ℕ → Bool} {v low high : ℕ → ℕ} {F R H C : List ℕ} (s : State n d free v low high F R H C) where
  -- ---- words on which what rests went towards the spares that a low of k in slot t leaves

  module _ (t k : ℕ) (l : t < d) (hi : k ≤ high t) (wide : k ≤ width F R t) {F' R' : List ℕ} (m : Rearranged F R F' R')
      (towards : Towards R (set C t (width F R t - k)) R') where
    places : Places n d free v F' R'
    places = places_moved s.places m

    -- what may rest in slot t
    h : ℕ
    h = width F R t - k

    pub new_spare : (u : ℕ) → u < d → at (set C t (width F R t - k)) u + put low t k u ≡ count n free u
    unfolding h
    new_spare =
        at_or_other (λ (u : ℕ). u < d → at (set C t h) u + put low t k u ≡ count n free u) t
        (λ m. omega (arith, get_or-set_same C t h 0 (omega (arith, s.spares, s.places.day.short)), put_same low t k, count_width s.places.day t m))
        (λ u n m. omega (arith, get_or-set_other C t u h 0 n, s.spare_at u m, put_other low t k u n))

    -- no load goes above its high
    raised_fed : Within F' H
    unfolding h
    raised_fed =
        within_day places.day H
        (λ u x.
        omega (
          arith,
          towards u,
          new_spare u x,
          count_width s.places.day u x,
          widths_kept s m u x,
          new_le u x,
          load_high s u x,
          s.high_at u x,
        ))
      where
        new_le : (u : ℕ) → u < d → put low t k u ≤ high u
        new_le =
            at_or_other (λ (u : ℕ). u < d → put low t k u ≤ high u) t (λ m. omega (arith, put_same low t k))
            (λ u n m. omega (arith, put_other low t k u n, low_load s u m, load_high s u m))

    -- with the spares as they were the words hold a placing within the same bounds
    pub spares_kept : low t ≤ k → {C' : List ℕ} → C' ≡ C → State n d free v low high F' R' H C'
    unfolding h
    spares_kept lo {C'} q =
        record {
          places = places;
          highs = s.highs;
          high_at = s.high_at;
          fed_within = raised_fed;
          spares = ap length q ∙ s.spares;
          spare_at = λ u m. omega (arith, ap (λ (l : List ℕ). at l u) q, s.spare_at u m);
          rest_within =
              within_day (day_exchange places.day) C'
              (λ u m.
              omega (
                arith,
                towards u,
                new_spare u m,
                new_le u m,
                s.spare_at u m,
                s.rest_within u,
                ap (λ (l : List ℕ). at l u) q,
              ));
        }
      where
        new_le : (u : ℕ) → u < d → low u ≤ put low t k u
        new_le =
            at_or_other (λ (u : ℕ). u < d → low u ≤ put low t k u) t (λ m. omega (arith, put_same low t k))
            (λ u n m. omega (arith, put_other low t k u n))

  -- ---- `raise`

  module _ {t k : ℕ} (l : t < d) (hi : k ≤ high t) {r : Bool} {F' R' C' S' : List ℕ} (w : Raised r F R C F' R' C' S' t k) where
    module _ (wide : k ≤ width F R t) where
      wide_spare : (u : ℕ) → u < d → at (set C t (width F R t - k)) u + put low t k u ≡ count n free u
      wide_spare = new_spare t k l hi wide w.moved (w.wide wide).towards

      wide_state : r ≡ true → State n d free v (put low t k) high F' R' H C'
      wide_state e =
          let q = (w.wide wide).done e in
          record {
            places = places_moved s.places w.moved;
            highs = s.highs;
            high_at = s.high_at;
            fed_within = raised_fed t k l hi wide w.moved (w.wide wide).towards;
            spares = ap length q.0 ∙ length-set C t (width F R t - k) ∙ s.spares;
            spare_at = λ u m. omega (arith, ap (λ (l : List ℕ). at l u) q.0, wide_spare u m);
            rest_within = q.1;
          }

      wide_kept : low t ≤ k → r ≡ false → State n d free v low high F' R' H C'
      wide_kept lo e = spares_kept t k l hi wide w.moved (w.wide wide).towards lo ((w.wide wide).held e).0

      wide_none : r ≡ false → {P : ℕ → ℕ → Bool} → Placing n d free v P → ((u : ℕ) → u < d → put low t k u ≤ count n P u) → ⊥
      wide_none e q b =
          held_none (places_exchange (places_moved s.places w.moved)) ((w.wide wide).held e).1 (placing_rest q)
          (λ u m. omega (arith, count_rest q u m, b u m, wide_spare u m))

    by_width : {A : Type 0} → (k ≤ width F R t → A) → (width F R t < k → A) → A
    by_width {A} f g = go (dec_lt (width F R t) k)
      where
        go : Dec (width F R t < k) → A
        go (yes n) = g n
        go (no n) = f (omega arith)

    -- slot t's low is k now
    pub raised_state : r ≡ true → State n d free v (put low t k) high F' R' H C'
    raised_state e = by_width (λ m. wide_state m e) (λ m. clash (sym e ∙ (w.narrow m).0))

    -- or the bounds are as before
    pub raised_kept : low t ≤ k → r ≡ false → State n d free v low high F' R' H C'
    raised_kept lo e =
        by_width (λ m. wide_kept m lo e)
        (λ m. rw (w.narrow m).2 (same_along (λ F R. State n d free v low high F R H C) (w.narrow m).1 s))

    -- and no placing of these rations has k feedings in slot t and every other slot at its low
    pub raised_none : r ≡ false → {P : ℕ → ℕ → Bool} → Placing n d free v P → ((u : ℕ) → u < d → put low t k u ≤ count n P u) → ⊥
    raised_none e q b =
        by_width (λ m. wide_none m e q b)
        (λ m. omega (arith, b t l, put_same low t k, count_rest q t l, count_width s.places.day t l))
