-- The minimal critical set is of greatest shortfall, every set of greatest shortfall contains it, and it is empty
-- exactly where no set has a greater shortfall than the empty one. Assumes nothing.
use Rattle.std.specs.Prelude.{◌≡◌, refl, ◌↔◌, Bool, true, List, ℕ, ◌≤◌, ◌<◌, replicate, pos, ◌≤ℤ◌}
use Rattle.std.proofs.Math.Path.{sym, ap}
use Rattle.std.proofs.Common.{◌∙◌, arith}
use Rattle.std.proofs.Math.Bool.{false}
use Rattle.std.proofs.lemmas.Bool.{false≢true}
use Rattle.std.proofs.Math.ListN.{length, get_or, get_or-replicate}
use Rattle.std.proofs.lemmas.List.{length-replicate}
use Rattle.std.proofs.Math.Seq.{ext_get_or}
use Rattle.common.specs.Lists.{count}
use Rattle.common.specs.Tests.{bool_ext}
use Rattle.theory.specs.SumsOver as S
use Rattle.theory.specs.SumsOver.{sum_on, on_cong, on_none, on_zero}
use Rattle.theory.specs.Placing as F
use Rattle.theory.proofs.Volumes.{forced_cong, forced_none_of_fits}
use Rattle.theory.proofs.Critical.{GreatestDeficiency, Critical, greatest_meet}
use Rattle.schedules.specs.Slots.{Slots, has, sum_over}
use Rattle.schedules.specs.Schedules.{Demand, Windows, window_of, volume_of, feasible}
use Rattle.schedules.specs.Shortfall.{forced, capacity, shortfall, possible, excess, NoObstacle, critical_set}
use Rattle.schedules.specs.Tabulate.{tab, count_size}
use Rattle.schedules.proofs.Differences.{sub_le, sub_le_zero}
use Rattle.schedules.specs.AsFunctions.{free, bound}
use Rattle.schedules.proofs.AsFunctions.{forced_as, sum_over_as}
use Rattle.schedules.proofs.FeasibleLaws.{sound_feasible, no_obstacle_sound}
use Rattle.schedules.proofs.GreatestLaws.{Greatest}
use Rattle.schedules.proofs.LeastSetLaws.{AsFunction, length_least, least_greatest, least_within, value_le_least, value_within, least_as}

module _ {slots : ℕ} {ds : List Demand} (w : Windows slots ds) (high : List ℕ) (h : length high ≡ slots) where
  -- The minimal critical set --------------------------------------------------

  volumes : AsFunction slots (forced ds) (F.forced (length ds) slots (free ds) (volume_of ds))
  volumes = record { is = λ q e. forced_as w q e; cong = λ A B k. forced_cong (length ds) slots (free ds) (volume_of ds) {A = A} {B = B} k }

  highs : AsFunction slots (capacity high) (λ Q. sum_on slots Q (bound high))
  highs = record { is = λ q e. sum_over_as high q h e; cong = λ A B k. on_cong {A = A} {B = B} {x = bound high} {y = bound high} k (λ t l. refl) }

  meets : (A B : ℕ → Bool) → GreatestDeficiency (length ds) slots (free ds) (volume_of ds) (bound high) A
      → GreatestDeficiency (length ds) slots (free ds) (volume_of ds) (bound high) B
      → GreatestDeficiency (length ds) slots (free ds) (volume_of ds) (bound high) (S.meet A B)
  meets = greatest_meet (length ds) slots (free ds) (volume_of ds) (bound high)

  pub length_critical_set : length (critical_set slots ds high) ≡ slots
  unfolding critical_set shortfall
  length_critical_set = length_least volumes highs meets

  pub critical_top : Greatest slots (forced ds) (capacity high) (critical_set slots ds high)
  unfolding critical_set shortfall
  critical_top = least_greatest volumes highs meets

  critical_in_top : (q : Slots) → length q ≡ slots → Greatest slots (forced ds) (capacity high) q
      → (t : ℕ) → has (critical_set slots ds high) t ≡ true → has q t ≡ true
  unfolding critical_set shortfall
  critical_in_top = least_within volumes highs meets

  -- (c) no set has a greater shortfall
  pub shortfall_le_critical : (q : Slots) → length q ≡ slots → shortfall ds high q ≤ℤ shortfall ds high (critical_set slots ds high)
  unfolding critical_set shortfall
  shortfall_le_critical = value_le_least volumes highs meets

  -- and one that has as much contains it
  pub critical_within : (q : Slots) → length q ≡ slots → shortfall ds high (critical_set slots ds high) ≤ℤ shortfall ds high q
      → (t : ℕ) → has (critical_set slots ds high) t ≡ true → has q t ≡ true
  unfolding critical_set shortfall
  critical_within = value_within volumes highs meets

  -- there is one minimal critical set only
  pub critical_as : {R : ℕ → Bool} → Critical (length ds) slots (free ds) (volume_of ds) (bound high) R → critical_set slots ds high ≡ tab slots R
  unfolding critical_set shortfall
  critical_as c = least_as volumes highs meets c.least_set

  -- The empty set -------------------------------------------------------------

  abbrev pub none : Slots
  none = replicate slots false

  has_none : (t : ℕ) → t < slots → has none t ≡ false
  has_none t l = get_or-replicate slots t false false l

  capacity_none : capacity high none ≡ 0
  capacity_none = sum_over_as high none h (length-replicate slots false) ∙ on_cong has_none (λ t l. refl) ∙ on_none slots (bound high)

  pub critical_empty_iff : (critical_set slots ds high ≡ none) ↔ ((q : Slots) → length q ≡ slots → shortfall ds high q ≤ℤ shortfall ds high none)
  unfolding shortfall
  critical_empty_iff = (λ e q l. rw e at (shortfall_le_critical q l), empty)
    where
      empty : ((q : Slots) → length q ≡ slots → shortfall ds high q ≤ℤ shortfall ds high none) → critical_set slots ds high ≡ none
      empty g = ext_get_or false (critical_set slots ds high) none (length_critical_set ∙ sym (length-replicate slots false)) at
        where
          top : Greatest slots (forced ds) (capacity high) none
          top q l = (sub_le (forced ds q) (capacity high q) (forced ds none) (capacity high none)).0 (g q l)

          at : (t : ℕ) → t < length (critical_set slots ds high) → has (critical_set slots ds high) t ≡ has none t
          at t l =
              bool_ext (has (critical_set slots ds high) t) (has none t) (critical_in_top none (length-replicate slots false) top t)
              (λ e. absurd (false≢true (sym (has_none t (rw length_critical_set at l)) ∙ e)))

  -- where each volume fits in its window, the empty set has shortfall 0
  pub shortfall_none : ((j : ℕ) → j < length ds → volume_of ds j ≤ count (window_of ds j)) → shortfall ds high none ≡ pos 0
  unfolding shortfall
  shortfall_none k =
      let e : forced ds none ≡ 0 =
      forced_as w none (length-replicate slots false) ∙ forced_cong (length ds) slots (free ds) (volume_of ds) has_none
      ∙ forced_none_of_fits (length ds) slots (free ds) (volume_of ds)
      (λ j l. omega (arith, k j l, count_size (window_of ds j) ∙ ap (λ d. F.size d (free ds j)) (w.all_day j l))) in
      rw (e, capacity_none)

  -- Held days -----------------------------------------------------------------

  abbrev pub no_low : List ℕ
  no_low = replicate slots 0

  low_none : (q : Slots) → length q ≡ slots → sum_over no_low q ≡ 0
  low_none q e =
      sum_over_as no_low q (length-replicate slots 0) e ∙ on_cong (λ t l. refl) (λ t l. get_or-replicate slots t 0 0 l) ∙ on_zero slots (has q)

  -- where into no set more is forced than its capacity, a sound placing within the highs exists
  pub within_capacity : ((q : Slots) → length q ≡ slots → forced ds q ≤ capacity high q) → feasible slots ds no_low high ≡ true
  unfolding shortfall excess
  within_capacity k =
      let o : NoObstacle slots ds no_low high = record {
        ordered = λ t l. let z : get_or no_low t 0 ≡ 0 = get_or-replicate slots t 0 0 l in omega arith;
        no_shortfall = λ q e. (sub_le_zero (forced ds q) (capacity high q)).1 (k q e);
        no_excess = λ q e. (sub_le_zero (sum_over no_low q) (possible ds q)).1 (omega (arith, low_none q e));
      } in
      sound_feasible w (length-replicate slots 0) h (no_obstacle_sound w (length-replicate slots 0) h o).1

  -- where none exists, more is forced into the critical set than its capacity
  pub infeasible_critical : feasible slots ds no_low high ≡ false
      → capacity high (critical_set slots ds high) < forced ds (critical_set slots ds high)
  infeasible_critical e =
      let no : ¬ (forced ds (critical_set slots ds high) ≤ capacity high (critical_set slots ds high)) = λ k.
      false≢true (sym e ∙ within_capacity (λ q l. omega (arith, critical_top q l))) in
      omega arith
