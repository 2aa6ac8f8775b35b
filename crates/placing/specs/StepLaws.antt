-- What the search says of one slot's bound, said of the demands: the answers of `idle` and `busy`. Assumes nothing.
use Rattle.std.specs.Prelude.{◌≡◌, refl, ◌≢◌, Bool, true, false, cond, List, ℕ, ◌+◌, ◌-◌, ◌≤◌, ◌<◌, min, max, eqb, length, get_or, set}
use Rattle.std.proofs.Common.{sym, ap, ◌∙◌, subst, true≢false, arith, length-set, get_or-set_same, get_or-set_other, eq-eqb, ne_eqb}
use Rattle.std.proofs.lemmas.Bool.{false≢true}
use Rattle.std.proofs.Math.Decide.{ℕ_discrete}
use Rattle.std.proofs.lemmas.List.{set-get_or}
use Rattle.grid.specs.Grid.{at}
use Rattle.loads.specs.Relief.{width, Lowered, Raised}
use Rattle.loads.specs.Meaning.{State, put}
use Rattle.loads.specs.MeaningLaws.{count_width}
use Rattle.loads.specs.StateLaws.{state_placing, state_within, state_lower, state_raise, lowered_state, lowered_kept, lowered_none}
use Rattle.loads.specs.RaiseLaws.{raised_state, raised_kept, raised_none}
use Rattle.common.specs.Tests.{false_of_not_true}
use Rattle.schedules.specs.Schedules.{Demand, Windows, feasible}
use Rattle.schedules.proofs.FeasibleLaws.{feasible_sound}
use Rattle.schedules.specs.AsFunctions.{bound}
use Rattle.schedules.proofs.AsFunctions.{sound_bounded}
use Rattle.schedules.proofs.Certificates.{places_feasible}
use Rattle.placing.specs.Represents.{Represents, Ready, lowered, raised, Idled, Busied}

-- ---- bounds as lists and as functions

pub put_set : (xs : List ℕ) (t x : ℕ) → t < length xs → (u : ℕ) → put (bound xs) t x u ≡ bound (set xs t x) u
put_set xs t x l u = go (ℕ_discrete u t)
  where
    go : Dec (u ≡ t) → cond (eqb u t) x (bound xs u) ≡ get_or (set xs t x) u 0
    go (yes e) = rw (e, eq-eqb t t refl) (sym (get_or-set_same xs t x 0 l))
    go (no n) = rw (ne_eqb u t n) (sym (get_or-set_other xs t u x 0 n))

-- a state speaks of its bounds only within the day
pub state_bounds : {n d : ℕ} {f : ℕ → ℕ → Bool} {v low high low' high' : ℕ → ℕ} {F R H C : List ℕ} → State n d f v low high F R H C
    → ((u : ℕ) → u < d → low u ≡ low' u) → ((u : ℕ) → u < d → high u ≡ high' u) → State n d f v low' high' F R H C
state_bounds s l h =
    record {
      places = s.places;
      highs = s.highs;
      high_at = λ t k. s.high_at t k ∙ h t k;
      fed_within = s.fed_within;
      spares = s.spares;
      spare_at = λ t k. omega (arith, s.spare_at t k, l t k);
      rest_within = s.rest_within;
    }

-- ---- a state answers yes

module _ {slots : ℕ} {ds : List Demand} {low high F R H C : List ℕ} (s : Represents slots ds low high F R H C) where
  pub represents_feasible : feasible slots ds low high ≡ true
  represents_feasible =
      places_feasible s.windows (state_placing s.state) low high s.lows s.highs (state_within s.state)

  pub represents_ready : (t : ℕ) → t < slots → Ready F R H C t
  represents_ready t l = record { fed = state_lower s.state t l; rest = state_raise s.state t l }

  -- the low of a slot, by the words
  pub low_width : (t : ℕ) → t < slots → at C t + bound low t ≡ width F R t
  low_width t l = s.state.spare_at t l ∙ count_width s.state.places.day t l

-- a low above a high: no
above_infeasible : {slots : ℕ} {ds : List Demand} (w : Windows slots ds) (low high : List ℕ) → length low ≡ slots → length high ≡ slots
    → (t : ℕ) → t < slots → bound high t < bound low t → false ≡ feasible slots ds low high
above_infeasible {slots} {ds} w low high l h t m k =
    sym (false_of_not_true (feasible slots ds low high) (λ e. let p = feasible_sound w l h e in omega (arith, p.1.bounded t m)))

-- ---- `idle`

module _ {F R H C : List ℕ} {t k : ℕ} (p : 1 ≤ k) where
  -- the low is k or more
  pub idled_low : at C t + k ≤ width F R t → Idled false F R H C F R H t k
  idled_low h =
      record {
        others = λ u n. refl;
        answer = λ slots ds low high s m.
            above_infeasible s.windows low (lowered high t k) s.lows (length-set high t _ ∙ s.highs) t m
            (rw (get_or-set_same high t (min (k - 1) (bound high t)) 0 (rw s.highs m)) (omega (arith, low_width s t m)));
        yes = λ e. absurd (false≢true e);
        no = λ e slots ds low high s m. s;
      }

  -- the high is below k already
  pub idled_high : at H t < k → Idled true F R H C F R H t k
  idled_high h =
      record {
        others = λ u n. refl;
        answer = λ slots ds low high s m. sym (ap (feasible slots ds low) (kept s m) ∙ represents_feasible s);
        yes = λ e slots ds low high s m. subst (λ x. Represents slots ds low x F R H C) (sym (kept s m)) s;
        no = λ e. absurd (true≢false e);
      }
    where
      kept : {slots : ℕ} {ds : List Demand} {low high : List ℕ} → Represents slots ds low high F R H C → t < slots → lowered high t k ≡ high
      kept {high} s m =
          let e : min (k - 1) (bound high t) ≡ bound high t = omega (arith, s.state.high_at t m) in ap (set high t) e ∙ set-get_or high t 0

  module _ (lo : width F R t < at C t + k) (hi : k ≤ at H t) {r : Bool} {F' R' H' S' : List ℕ} (w : Lowered r F R H F' R' H' S' t (k - 1)) where
    new : {slots : ℕ} {ds : List Demand} {low high : List ℕ} → Represents slots ds low high F R H C → t < slots → min (k - 1) (bound high t) ≡ k - 1
    new s m = omega (arith, s.state.high_at t m)

    below : {slots : ℕ} {ds : List Demand} {low high : List ℕ} → Represents slots ds low high F R H C → t < slots → bound low t ≤ k - 1
    below s m = omega (arith, low_width s t m)

    yes_state : r ≡ true → (slots : ℕ) (ds : List Demand) (low high : List ℕ) → Represents slots ds low high F R H C → t < slots
        → Represents slots ds low (lowered high t k) F' R' H' C
    yes_state e slots ds low high s m =
        record {
          windows = s.windows;
          lows = s.lows;
          highs = length-set high t _ ∙ s.highs;
          state =
              state_bounds (lowered_state s.state m (below s m) w e) (λ u l. refl)
              (λ u l. put_set high t (k - 1) (rw s.highs m) u ∙ ap (λ x. bound (set high t x) u) (sym (new s m)));
        }

    answer_no : r ≡ false → (slots : ℕ) (ds : List Demand) (low high : List ℕ) → Represents slots ds low high F R H C → t < slots
        → feasible slots ds low (lowered high t k) ≡ false
    answer_no e slots ds low high s m =
        false_of_not_true (feasible slots ds low (lowered high t k)) (λ f.
        let q = sound_bounded s.windows (feasible_sound s.windows s.lows (length-set high t _ ∙ s.highs) f).1 in
        lowered_none s.state m (below s m) w e q.0
        (λ u l. omega (arith, q.1 u l, put_set high t (k - 1) (rw s.highs m) u, ap (λ x. bound (set high t x) u) (sym (new s m)))))

    pub idled_search : Idled r F R H C F' R' H' t k
    idled_search =
        record {
          others = λ u n. kept_high r refl u n;
          answer = λ slots ds low high s m. go r refl slots ds low high s m;
          yes = yes_state;
          no = λ e slots ds low high s m.
              record {
                windows = s.windows;
                lows = s.lows;
                highs = s.highs;
                state = lowered_kept s.state m (below s m) w (omega (arith, s.state.high_at t m)) e;
              };
        }
      where
        kept_high : (b : Bool) → r ≡ b → (u : ℕ) → u ≢ t → get_or H' u 0 ≡ get_or H u 0
        kept_high true e u n = ap (λ h. get_or h u 0) (w.done e).0 ∙ get_or-set_other H t u (k - 1) 0 n
        kept_high false e u n = ap (λ h. get_or h u 0) (w.held e).0

        go : (b : Bool) → r ≡ b → (slots : ℕ) (ds : List Demand) (low high : List ℕ) → Represents slots ds low high F R H C → t < slots
            → r ≡ feasible slots ds low (lowered high t k)
        go true e slots ds low high s m = e ∙ sym (represents_feasible (yes_state e slots ds low high s m))
        go false e slots ds low high s m = e ∙ sym (answer_no e slots ds low high s m)

-- ---- `busy`

module _ {F R H C : List ℕ} {t k : ℕ} where
  -- the high is below k
  pub busied_high : at H t < k → Busied false F R H C F R C t k
  busied_high h =
      record {
        answer = λ slots ds low high s m.
            above_infeasible s.windows (raised low t k) high (length-set low t _ ∙ s.lows) s.highs t m
            (rw (get_or-set_same low t (max k (bound low t)) 0 (rw s.lows m)) (omega (arith, s.state.high_at t m)));
        yes = λ e. absurd (false≢true e);
        no = λ e slots ds low high s m. s;
      }

  -- the low is k or more already
  pub busied_low : at C t + k ≤ width F R t → Busied true F R H C F R C t k
  busied_low h =
      record {
        answer = λ slots ds low high s m. sym (ap (λ x. feasible slots ds x high) (kept s m) ∙ represents_feasible s);
        yes = λ e slots ds low high s m. subst (λ x. Represents slots ds x high F R H C) (sym (kept s m)) s;
        no = λ e. absurd (true≢false e);
      }
    where
      kept : {slots : ℕ} {ds : List Demand} {low high : List ℕ} → Represents slots ds low high F R H C → t < slots → raised low t k ≡ low
      kept {low} s m =
          let e : max k (bound low t) ≡ bound low t = omega (arith, low_width s t m) in ap (set low t) e ∙ set-get_or low t 0

  module _ (hi : k ≤ at H t) (lo : width F R t < at C t + k) {r : Bool} {F' R' C' S' : List ℕ} (w : Raised r F R C F' R' C' S' t k) where
    new_low : {slots : ℕ} {ds : List Demand} {low high : List ℕ} → Represents slots ds low high F R H C → t < slots → max k (bound low t) ≡ k
    new_low s m = omega (arith, low_width s t m)

    under : {slots : ℕ} {ds : List Demand} {low high : List ℕ} → Represents slots ds low high F R H C → t < slots → k ≤ bound high t
    under s m = omega (arith, s.state.high_at t m)

    raised_yes : r ≡ true → (slots : ℕ) (ds : List Demand) (low high : List ℕ) → Represents slots ds low high F R H C → t < slots
        → Represents slots ds (raised low t k) high F' R' H C'
    raised_yes e slots ds low high s m =
        record {
          windows = s.windows;
          lows = length-set low t _ ∙ s.lows;
          highs = s.highs;
          state =
              state_bounds (raised_state s.state m (under s m) w e)
              (λ u l. put_set low t k (rw s.lows m) u ∙ ap (λ x. bound (set low t x) u) (sym (new_low s m))) (λ u l. refl);
        }

    raised_no : r ≡ false → (slots : ℕ) (ds : List Demand) (low high : List ℕ) → Represents slots ds low high F R H C → t < slots
        → feasible slots ds (raised low t k) high ≡ false
    raised_no e slots ds low high s m =
        false_of_not_true (feasible slots ds (raised low t k) high) (λ f.
        let q = sound_bounded s.windows (feasible_sound s.windows (length-set low t _ ∙ s.lows) s.highs f).1 in
        raised_none s.state m (under s m) w e q.0
        (λ u l. omega (arith, q.1 u l, put_set low t k (rw s.lows m) u, ap (λ x. bound (set low t x) u) (sym (new_low s m)))))

    pub busied_search : Busied r F R H C F' R' C' t k
    busied_search =
        record {
          answer = λ slots ds low high s m. go r refl slots ds low high s m;
          yes = raised_yes;
          no = λ e slots ds low high s m.
              record {
                windows = s.windows;
                lows = s.lows;
                highs = s.highs;
                state = raised_kept s.state m (under s m) w (omega (arith, low_width s t m)) e;
              };
        }
      where
        go : (b : Bool) → r ≡ b → (slots : ℕ) (ds : List Demand) (low high : List ℕ) → Represents slots ds low high F R H C → t < slots
            → r ≡ feasible slots ds (raised low t k) high
        go true e slots ds low high s m = e ∙ sym (represents_feasible (raised_yes e slots ds low high s m))
        go false e slots ds low high s m = e ∙ sym (raised_no e slots ds low high s m)
