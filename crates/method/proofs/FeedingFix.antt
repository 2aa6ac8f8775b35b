-- One cell decided, as functions of demand and slot: the slot leaves the window, and volume and count fall by one if the cell is fed.
-- Assumes nothing.
use Rattle.std.specs.Prelude.{◌≡◌, refl, Bool, true, false, ◌&&◌, cond, List, ℕ, ◌-◌, ◌<◌, eqb, length, get_or, set}
use Rattle.std.proofs.Common.{sym, ◌∙◌, ap, get_or-set_same, get_or-set_other, eqb-true}
use Rattle.std.proofs.Math.ListN.{length-set}
use Rattle.std.proofs.lemmas.Bool.{eqb-false}
use Rattle.theory.specs.SumsOver.{one}
use Rattle.theory.specs.Move.{upd}
use Rattle.schedules.specs.Slots.{has}
use Rattle.schedules.specs.Schedules.{no_demand, window_of, volume_of}
use Rattle.schedules.specs.AsFunctions.{free, bound}
use Rattle.method.specs.FeedingResidual.{Residual, OfDay, fix_demand, fix}
use Rattle.method.specs.FeedingUndecided.{less}

get_d_set : {A : Type 0} (l : List A) (j : ℕ) (a z : A) (i : ℕ) → j < length l → get_or (set l j a) i z ≡ cond (eqb i j) a (get_or l i z)
get_d_set l j a z i k = go (eqb i j) refl
  where
    go : (b : Bool) → eqb i j ≡ b → get_or (set l j a) i z ≡ cond b a (get_or l i z)
    go true e = rw (eqb-true i j e) (get_or-set_same l j a z k)
    go false e = get_or-set_other l j i a z (eqb-false i j e)

module _ {slots : ℕ} (r : Residual) (o : OfDay slots r) (t j : ℕ) (b : Bool) (k : t < slots) (l : j < length r.demands) where
  pub length_fix : length (fix t j b r).demands ≡ length r.demands
  unfolding fix
  length_fix = length-set r.demands j (fix_demand t b (get_or r.demands j no_demand))

  length_fix_counts : length (fix t j b r).counts ≡ length r.counts
  unfolding fix
  length_fix_counts = length-set r.counts t (get_or r.counts t 0 - one b)

  demand_fix : (i : ℕ) → get_or (fix t j b r).demands i no_demand ≡ cond (eqb i j) (fix_demand t b (get_or r.demands j no_demand)) (get_or r.demands i no_demand)
  unfolding fix
  demand_fix i = get_d_set r.demands j (fix_demand t b (get_or r.demands j no_demand)) no_demand i l

  pub of_day_fix : OfDay slots (fix t j b r)
  of_day_fix = record {
    each_window = record { all_day = λ i m. ap (λ d. length d.window) (demand_fix i) ∙ go i (rw length_fix at m) (eqb i j) };
    each_slot = length_fix_counts ∙ o.each_slot;
  }
    where
      go : (i : ℕ) → i < length r.demands → (x : Bool)
          → length (cond x (fix_demand t b (get_or r.demands j no_demand)) (get_or r.demands i no_demand)).window ≡ slots
      go i m true = length-set (window_of r.demands j) t false ∙ o.each_window.all_day j l
      go i m false = o.each_window.all_day i m

  -- the slot leaves the window
  pub free_fix : (i u : ℕ) → free (fix t j b r).demands i u ≡ upd (free r.demands) j t false i u
  free_fix i u = ap (λ d. has d.window u) (demand_fix i) ∙ go (eqb i j) refl
    where
      go : (x : Bool) → eqb i j ≡ x
          → has (cond x (fix_demand t b (get_or r.demands j no_demand)) (get_or r.demands i no_demand)).window u ≡ cond (x && eqb u t) false (free r.demands i u)
      go true e = get_d_set (window_of r.demands j) t false false u (rw (o.each_window.all_day j l) k) ∙ ap (λ i. cond (eqb u t) false (free r.demands i u)) (sym (eqb-true i j e))
      go false e = refl

  -- the volume and the count fall by one if the cell is fed
  pub volume_fix : (i : ℕ) → volume_of (fix t j b r).demands i ≡ less (volume_of r.demands) j b i
  volume_fix i = ap (λ d. d.volume) (demand_fix i) ∙ go (eqb i j)
    where
      go : (x : Bool) → (cond x (fix_demand t b (get_or r.demands j no_demand)) (get_or r.demands i no_demand)).volume
          ≡ cond x (volume_of r.demands j - one b) (volume_of r.demands i)
      go true = refl
      go false = refl

  pub count_fix : (u : ℕ) → bound (fix t j b r).counts u ≡ less (bound r.counts) t b u
  unfolding fix
  count_fix u = get_d_set r.counts t (get_or r.counts t 0 - one b) 0 u (rw o.each_slot k)
