-- The lists of this layer as the functions of crate `theory`, and back: so a search that keeps its grid as a function S of demand and slot
-- gets its answer about `feasible` and `critical_set` from what it knows of S. Demands and slots are counted from 0. Assumes nothing.
use Rattle.std.specs.Prelude.{◌≡◌, refl, true, cond, get_or}
use Rattle.std.proofs.Math.Path.{sym, ap}
use Rattle.std.proofs.Common.{◌∙◌, arith}
use Rattle.std.proofs.Math.Bool.{Bool, false, not, ◌&&◌}
use mathlib.Core.List.{List, [], ◌∷◌}
use Prim.Native.Nat.{ℕ, zero, suc, ◌+◌, ◌-◌, ◌<◌, min}
use Rattle.std.proofs.Math.ListN.{length}
use Rattle.std.proofs.lemmas.List.{length-replicate, get_or-replicate}
use Rattle.common.specs.Lists.{zip_with}
use Rattle.theory.specs.Sums.{sum, sum_cong, sum_head}
use Rattle.theory.specs.SumsOver.{one, pick, sum_on, on_cong}
use Rattle.theory.specs.Placing as F
use Rattle.theory.specs.Placing.{size}
use Rattle.theory.proofs.Row.{inside_is, outside_is}
use Rattle.theory.proofs.Volumes.{forced_cong, possible_cong}
use Rattle.schedules.specs.Slots.{Slots, has, inside, outside, sum_over}
use Rattle.schedules.specs.Schedules.{Demand, Schedule, one_more, load, no_demand, window_of, volume_of, Chosen, Sound, Windows}
use Rattle.schedules.specs.Shortfall.{forced, possible}
use Rattle.schedules.specs.Tabulate.{tab, length_tab, get_d_tab, length_zip_with, get_d_zip_with, sum_get_d, sum_map, count_size, count_tab, has_below}
use Rattle.schedules.specs.AsFunctions.{free, fed, bound, listed, Rows, BoundedBy}

-- The functions ---------------------------------------------------------------

-- Sets of slots ---------------------------------------------------------------

module _ {d : ℕ} (e q : Slots) (p : length e ≡ d) (r : length q ≡ d) where
  pub inside_as : inside e q ≡ F.inside d (has e) (has q)
  unfolding inside size
  inside_as =
      count_size (zip_with ◌&&◌ e q) ∙ ap (λ k. size k (has (zip_with ◌&&◌ e q))) (length_zip_with ◌&&◌ e q p r)
      ∙ sum_cong (λ t l. ap one (get_d_zip_with ◌&&◌ e q false false false t (rw p l) (rw r l))) ∙ sym (inside_is d (has e) (has q))

  pub outside_as : outside e q ≡ F.outside d (has e) (has q)
  unfolding outside size
  outside_as =
      let f : Bool → Bool → Bool = λ a b. a && not b in
      count_size (zip_with f e q) ∙ ap (λ k. size k (has (zip_with f e q))) (length_zip_with f e q p r)
      ∙ sum_cong (λ t l. ap one (get_d_zip_with f e q false false false t (rw p l) (rw r l))) ∙ sym (outside_is d (has e) (has q))

cond_pick : (b : Bool) (x : ℕ) → cond b x 0 ≡ pick b x
cond_pick true x = refl
cond_pick false x = refl

pub sum_over_as : {d : ℕ} (xs : List ℕ) (q : Slots) → length xs ≡ d → length q ≡ d → sum_over xs q ≡ sum_on d (has q) (bound xs)
unfolding sum_over sum_on
sum_over_as {d} xs q p r =
    let f : ℕ → Bool → ℕ = λ x b. cond b x 0 in
    sum_get_d (zip_with f xs q) ∙ ap (λ k. sum k (λ t. get_or (zip_with f xs q) t 0)) (length_zip_with f xs q p r)
    ∙ sum_cong (λ t l. get_d_zip_with f xs q 0 false 0 t (rw p l) (rw r l) ∙ cond_pick (has q t) (bound xs t))

module _ {slots : ℕ} {ds : List Demand} (w : Windows slots ds) (q : Slots) (r : length q ≡ slots) where
  pub forced_as : forced ds q ≡ F.forced (length ds) slots (free ds) (volume_of ds) (has q)
  unfolding forced F.forced
  forced_as = sum_map _ no_demand ds ∙ sum_cong (λ j l. ap (λ x. volume_of ds j - x) (outside_as (window_of ds j) q (w.all_day j l) r))

  pub possible_as : possible ds q ≡ F.possible (length ds) slots (free ds) (volume_of ds) (has q)
  unfolding possible F.possible
  possible_as = sum_map _ no_demand ds ∙ sum_cong (λ j l. ap (λ x. min (volume_of ds j) x) (inside_as (window_of ds j) q (w.all_day j l) r))

-- A function Q of the slots as a list ------------------------------------------

pub sum_over_tab : {d : ℕ} (xs : List ℕ) → length xs ≡ d → (Q : ℕ → Bool) → sum_over xs (tab d Q) ≡ sum_on d Q (bound xs)
sum_over_tab {d} xs p Q = sum_over_as xs (tab d Q) p (length_tab d Q) ∙ on_cong (get_d_tab d Q false) (λ t l. refl)

module _ {slots : ℕ} {ds : List Demand} (w : Windows slots ds) (Q : ℕ → Bool) where
  pub forced_tab : forced ds (tab slots Q) ≡ F.forced (length ds) slots (free ds) (volume_of ds) Q
  forced_tab =
      forced_as w (tab slots Q) (length_tab slots Q) ∙ forced_cong (length ds) slots (free ds) (volume_of ds) (get_d_tab slots Q false)

  pub possible_tab : possible ds (tab slots Q) ≡ F.possible (length ds) slots (free ds) (volume_of ds) Q
  possible_tab =
      possible_as w (tab slots Q) (length_tab slots Q) ∙ possible_cong (length ds) slots (free ds) (volume_of ds) (get_d_tab slots Q false)

-- Loads -----------------------------------------------------------------------

rows_tail : (slots : ℕ) (c : Slots) (p : Schedule) → Rows slots (c ∷ p) → Rows slots p
rows_tail slots c p h j l = h (suc j) (omega arith)

pub length_load : {slots : ℕ} (p : Schedule) → Rows slots p → length (load slots p) ≡ slots
unfolding load
length_load {slots} [] h = length-replicate slots 0
length_load {slots} (c ∷ p) h = length_zip_with one_more c (load slots p) (h zero (omega arith)) (length_load p (rows_tail slots c p h))

one_more_lem : (b : Bool) (n : ℕ) → one_more b n ≡ one b + n
one_more_lem true n = omega arith
one_more_lem false n = omega arith

pub load_as : {slots : ℕ} (p : Schedule) → Rows slots p → (t : ℕ) → t < slots → get_or (load slots p) t 0 ≡ F.count (length p) (fed p) t
unfolding load F.count sum
load_as {slots} [] h t l = get_or-replicate slots t 0 0 l
load_as {slots} (c ∷ p) h t l =
    let r = rows_tail slots c p h in
    get_d_zip_with one_more c (load slots p) false 0 0 t (rw (h zero (omega arith)) l) (rw (length_load p r) l)
    ∙ one_more_lem (has c t) (get_or (load slots p) t 0)
    ∙ omega (arith, load_as p r t l, sum_head (length p) (λ j. one (fed (c ∷ p) j t)))

-- Placings --------------------------------------------------------------------

fed_listed : (n d : ℕ) (S : ℕ → ℕ → Bool) (j t : ℕ) → j < n → t < d → fed (listed n d S) j t ≡ S j t
fed_listed n d S j t l k = ap (λ c. has c t) (get_d_tab n (λ j. tab d (S j)) [] j l) ∙ get_d_tab d (S j) false t k

module _ {slots : ℕ} {ds : List Demand} (w : Windows slots ds) where
  sound_rows : {low high : List ℕ} {p : Schedule} → Sound slots ds low high p → Rows slots p
  sound_rows s j l = let k = rw s.for_each at l in (s.served j k).same_day ∙ w.all_day j k

  pub sound_bounded : {low high : List ℕ} {p : Schedule} → Sound slots ds low high p → BoundedBy slots ds low high (fed p)
  sound_bounded {low} {high} {p} s = (
    record {
      within = λ j l t k e. (s.served j l).in_window t e;
      volume = λ j l.
          ap (λ d. size d (fed p j)) (sym (w.all_day j l) ∙ sym (s.served j l).same_day) ∙ sym (count_size (get_or p j [])) ∙ (s.served j l).exactly;
    },
    λ t l. let e = load_as p (sound_rows s) t l ∙ ap (λ n. F.count n (fed p) t) s.for_each in omega (arith, s.bounded t l),
  )

  chosen_tab : (j : ℕ) → j < length ds → (s : ℕ → Bool) → F.Within slots s (free ds j) → size slots s ≡ volume_of ds j → Chosen (window_of ds j) (volume_of ds j) (tab slots s)
  chosen_tab j l s h e = record {
    same_day = length_tab slots s ∙ sym (w.all_day j l);
    exactly = count_tab slots s ∙ e;
    in_window = λ t a.
        let b : t < slots = omega (arith, has_below (tab slots s) t a, length_tab slots s) in h t b (sym (get_d_tab slots s false t b) ∙ a);
  }

  pub bounded_sound : {low high : List ℕ} (S : ℕ → ℕ → Bool) → BoundedBy slots ds low high S → Sound slots ds low high (listed (length ds) slots S)
  unfolding F.count
  bounded_sound {low} {high} S s = record {
    for_each = length_listed;
    served = λ j l. rw (get_d_tab (length ds) (λ j. tab slots (S j)) [] j l) (chosen_tab j l (S j) (s.0.within j l) (s.0.volume j l));
    bounded = λ t l.
        let e = load_as (listed (length ds) slots S) rows t l ∙ ap (λ n. F.count n (fed (listed (length ds) slots S)) t) length_listed
        ∙ sum_cong (λ j k. ap one (fed_listed (length ds) slots S j t k l)) in
        omega (arith, s.1 t l);
  }
    where
      length_listed : length (listed (length ds) slots S) ≡ length ds
      length_listed = length_tab (length ds) (λ j. tab slots (S j))

      rows : Rows slots (listed (length ds) slots S)
      rows j l = ap length (get_d_tab (length ds) (λ j. tab slots (S j)) [] j (rw length_listed at l)) ∙ length_tab slots (S j)
