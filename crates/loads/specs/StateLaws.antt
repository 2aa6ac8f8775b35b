-- A placing within lows and highs, and what `lower` makes of it: another one with slot t's high at h, or the proof that
-- there is none. Assumes nothing.
use Rattle.std.specs.Prelude.{◌≡◌, refl, ◌≢◌, Bool, true, false, List, ℕ, ◌+◌, ◌≤◌, ◌<◌, length, set}
use Rattle.std.proofs.Common.{sym, ap, ◌∙◌, subst, arith, eq-eqb, ne_eqb, length-set, get_or-set_same, get_or-set_other}
use Rattle.std.proofs.Math.Decide.{ℕ_discrete, dec_lt}
use Rattle.loads.specs.Theory.{count, Placing}
use Rattle.grid.specs.Grid.{at, load, Rearranged}
use Rattle.loads.specs.Relief.{Within, Towards, CanLower, Lowered}
use Rattle.loads.specs.Meaning.{bit_at, Day, Places, State, put}
use Rattle.loads.specs.MeaningLaws.{count_load, count_width, loaded_slot, places_placing, places_moved, day_exchange}
use Rattle.loads.specs.HeldLaws.{held_none}

pub put_same : (f : ℕ → ℕ) (t x : ℕ) → put f t x t ≡ x
put_same f t x = rw (eq-eqb t t refl)

pub put_other : (f : ℕ → ℕ) (t x u : ℕ) → u ≢ t → put f t x u ≡ f u
put_other f t x u h = rw (ne_eqb u t h)

-- what holds at t, and at every other slot
pub at_or_other : (P : ℕ → Type 0) (t : ℕ) → P t → ((u : ℕ) → u ≢ t → P u) → (u : ℕ) → P u
at_or_other P t p q u = go (ℕ_discrete u t)
  where
    go : Dec (u ≡ t) → P u
    go (yes e) = subst P (sym e) p
    go (no h) = q u h

-- past the day nothing is fed, so all loads there are within any highs
pub within_day : {n d : ℕ} {free : ℕ → ℕ → Bool} {F R : List ℕ} → Day n d free F R → (H : List ℕ) → ((t : ℕ) → t < d → load F t ≤ at H t) → Within F H
within_day {d} {F} y H h t = go (dec_lt t d)
  where
    go : Dec (t < d) → load F t ≤ at H t
    go (yes l) = h t l
    go (no l) = let z : ¬ (0 < load F t) = λ k. l (loaded_slot y t k) in omega arith

module _ {n d : ℕ} {free : ℕ → ℕ → Bool} {v low high : ℕ → ℕ} {F R H C : List ℕ} (s : State n d free v low high F R H C) where
  -- the words are a placing within the bounds
  pub state_placing : Placing n d free v (bit_at F)
  state_placing = places_placing s.places

  pub state_within : (t : ℕ) → t < d → (low t ≤ count n (bit_at F) t) × (count n (bit_at F) t ≤ high t)
  state_within t l =
      omega (
        arith,
        count_load s.places.day t,
        count_width s.places.day t l,
        s.high_at t l,
        s.fed_within t,
        s.spare_at t l,
        s.rest_within t,
      )

  pub state_lower : (t : ℕ) → t < d → CanLower F R H t
  state_lower t l =
      record {
        grid = s.places.day.grid;
        highs = s.highs;
        slot = omega (arith, s.places.day.short);
        within = s.fed_within;
      }

  pub state_raise : (t : ℕ) → t < d → CanLower R F C t
  state_raise t l =
      record {
        grid = (day_exchange s.places.day).grid;
        highs = s.spares;
        slot = omega (arith, s.places.day.short);
        within = s.rest_within;
      }

  -- the loads, between low and high
  pub low_load : (t : ℕ) → t < d → low t ≤ load F t
  low_load t l = omega (arith, state_within t l, count_load s.places.day t)

  pub load_high : (t : ℕ) → t < d → load F t ≤ high t
  load_high t l = omega (arith, state_within t l, count_load s.places.day t)

  -- two words of a slot have all rations that can be fed there, also after moves
  pub widths_kept : {F' R' : List ℕ} → Rearranged F R F' R' → (t : ℕ) → t < d → load F' t + load R' t ≡ count n free t
  widths_kept m t l = sym (count_width (places_moved s.places m).day t l)

  -- ---- words whose loads went towards the highs with h in slot t

  pub new_high : (t h : ℕ) → t < d → (u : ℕ) → u < d → at (set H t h) u ≡ put high t h u
  new_high t h l =
      at_or_other (λ (u : ℕ). u < d → at (set H t h) u ≡ put high t h u) t
      (λ k. get_or-set_same H t h 0 (omega (arith, s.highs, s.places.day.short)) ∙ sym (put_same high t h))
      (λ u m k. get_or-set_other H t u h 0 m ∙ s.high_at u k ∙ sym (put_other high t h u m))

  module _ (t h : ℕ) (l : t < d) {F' R' : List ℕ} (m : Rearranged F R F' R') (towards : Towards F (set H t h) F') where
    places : Places n d free v F' R'
    places = places_moved s.places m

    module _ (lo : low t ≤ h) where
      -- no load goes below its low
      towards_rest : Within R' C
      towards_rest =
          within_day (day_exchange places.day) C
          (λ u k. omega (arith, low_kept u k, widths_kept m u k, s.spare_at u k))
        where
          low_kept : (u : ℕ) → u < d → low u ≤ load F' u
          low_kept u k = omega (arith, towards u, low_load u k, new_high t h l u k, low_new u k)
            where
              low_new : (u : ℕ) → u < d → low u ≤ put high t h u
              low_new =
                  at_or_other (λ (u : ℕ). u < d → low u ≤ put high t h u) t (λ k. omega (arith, put_same high t h))
                  (λ u m k. omega (arith, put_other high t h u m, low_load u k, load_high u k))

      -- with the highs as they were the words hold a placing within the same bounds
      pub towards_kept : h ≤ high t → {H' : List ℕ} → H' ≡ H → State n d free v low high F' R' H' C
      towards_kept hi {H'} q =
          record {
            places = places;
            highs = ap length q ∙ s.highs;
            high_at = λ u k. ap (λ (l : List ℕ). at l u) q ∙ s.high_at u k;
            fed_within =
                within_day places.day H'
                (λ u k. omega (arith, towards u, new_high t h l u k, new_le u k, load_high u k, ap (λ (l : List ℕ). at l u) q, s.high_at u k));
            spares = s.spares;
            spare_at = s.spare_at;
            rest_within = towards_rest;
          }
        where
          new_le : (u : ℕ) → u < d → put high t h u ≤ high u
          new_le =
              at_or_other (λ (u : ℕ). u < d → put high t h u ≤ high u) t (λ k. omega (arith, put_same high t h))
              (λ u m k. omega (arith, put_other high t h u m))

  -- ---- `lower`

  module _ {t h : ℕ} (l : t < d) (lo : low t ≤ h) {r : Bool} {F' R' H' S' : List ℕ} (w : Lowered r F R H F' R' H' S' t h) where
    -- slot t's high is h now
    pub lowered_state : r ≡ true → State n d free v low (put high t h) F' R' H' C
    lowered_state e =
        let q = w.done e in
        record {
          places = places_moved s.places w.moved;
          highs = ap length q.0 ∙ length-set H t h ∙ s.highs;
          high_at = λ u k. ap (λ (l : List ℕ). at l u) q.0 ∙ new_high t h l u k;
          fed_within = q.1;
          spares = s.spares;
          spare_at = s.spare_at;
          rest_within = towards_rest t h l w.moved w.towards lo;
        }

    -- or the bounds are as before
    pub lowered_kept : h ≤ high t → r ≡ false → State n d free v low high F' R' H' C
    lowered_kept hi e = towards_kept t h l w.moved w.towards lo hi (w.held e).0

    -- and no placing of these rations has slot t within h and every other slot within its high
    pub lowered_none : r ≡ false → {P : ℕ → ℕ → Bool} → Placing n d free v P → ((u : ℕ) → u < d → count n P u ≤ put high t h u) → ⊥
    lowered_none e q b =
        held_none (places_moved s.places w.moved) (w.held e).1 q
        (λ u k. omega (arith, b u k, new_high t h l u k))
