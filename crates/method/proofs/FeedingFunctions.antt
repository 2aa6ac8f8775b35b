-- The loop over the cells as functions, for a search that holds one placing of what is left: what is left before cell (t, j) has the windows
-- without the cells before it, volumes v and counts c; a step changes each of them at one place. A placing within the counts answers yes, and
-- only if there is none the answer is no. Assumes nothing.
use Rattle.std.specs.Prelude.{◌≡◌, refl, Bool, true, false, ◌&&◌, not, List, ℕ, suc, ◌<◌, length}
use Rattle.std.proofs.Common.{sym, ◌∙◌, ap, arith}
use Rattle.std.proofs.lemmas.Bool.{false≢true}
use Rattle.common.specs.Tests.{false_of_not_true}
use Rattle.theory.specs.Sums.{sum, sum_cong}
use Rattle.theory.specs.Move.{upd}
use Rattle.theory.proofs.Move.{upd_same}
use Rattle.schedules.specs.Schedules.{Demand, Windows, volume_of, feasible}
use Rattle.schedules.specs.AsFunctions.{free, fed, bound, listed}
use Rattle.schedules.proofs.AsFunctions.{sound_bounded, bounded_sound}
use Rattle.method.specs.Feedings.{Cells, chosen, before}
use Rattle.method.proofs.FeedingCells.{before_first, before_self, before_next, before_next_slot}
use Rattle.method.proofs.FeedingLaws.{chosen_sound, chosen_fed_iff}
use Rattle.method.specs.FeedingResidual.{joined}
use Rattle.method.specs.FeedingUndecided.{less}
use Rattle.method.proofs.FeedingUndecided.{Exact, exact_cong, exact_undecided, exact_joined, exact_fed, exact_fixed, undecided_out, undecided_upd}
use Rattle.method.proofs.FeedingAmounts.{within_exact, sum_less, sum_loads, amounts_none, amounts_cong, amounts_fix, amounts_fed}
use Rattle.method.proofs.FeedingResidualLaws.{fed_listed}
use Rattle.method.specs.FeedingFunctions.{windows_from, chosen_from, LeftFrom, Answers}

-- the windows, cell after cell
pub windows_from_first : (ds : List Demand) (i u : ℕ) → windows_from ds 0 0 i u ≡ free ds i u
windows_from_first ds i u = undecided_out (before 0 0) (free ds) i u (before_first i u)

pub windows_from_next : (ds : List Demand) (t j i u : ℕ) → windows_from ds t (suc j) i u ≡ upd (windows_from ds t j) j t false i u
windows_from_next ds t j i u = ap (λ x. free ds i u && not x) (before_next t j i u) ∙ undecided_upd (before t j) (free ds) j t i u

pub windows_from_next_row : (ds : List Demand) (t i u : ℕ) → i < length ds → windows_from ds (suc t) 0 i u ≡ windows_from ds t (length ds) i u
windows_from_next_row ds t i u m = ap (λ x. free ds i u && not x) (before_next_slot (length ds) t i u m)

module _ {slots : ℕ} {ds : List Demand} (w : Windows slots ds) (counts : List ℕ) (l : length counts ≡ slots) (e : feasible slots ds counts counts ≡ true) where
  pub left_from_first : LeftFrom slots ds counts 0 0 (volume_of ds) (bound counts)
  left_from_first = amounts_none (sound_bounded w (chosen_sound w counts l e)) before_first

  -- a cell outside of its window is not fed
  pub not_fed_outside : (t j : ℕ) → j < length ds → free ds j t ≡ false → fed (chosen slots ds counts) j t ≡ false
  not_fed_outside t j m h =
      false_of_not_true (fed (chosen slots ds counts) j t) (λ f. false≢true (sym h ∙ ((chosen_sound w counts l e).served j m).in_window t f))

  module _ (t j : ℕ) {v c : ℕ → ℕ} (a : LeftFrom slots ds counts t j v c) where
    -- one placing of what is left, and the totals
    pub left_from_exact : Exact (length ds) slots (windows_from ds t j) v c (chosen_from slots ds counts t j)
    left_from_exact =
        let b = sound_bounded w (chosen_sound w counts l e) in
        exact_cong (λ i u m k. refl) (λ i m. sym (a.volumes i m)) (λ u k. sym (a.loads u k)) (exact_undecided (before t j) b b (λ i u m k e. refl))

    pub left_from_totals : sum (length ds) v ≡ sum slots c
    left_from_totals =
        sum_cong a.volumes ∙ sym (sum_loads (length ds) slots (chosen_from slots ds counts t j)) ∙ sum_cong (λ u k. sym (a.loads u k))

    module _ (k : t < slots) (m : j < length ds) where
      -- it feeds exactly what is left to each slot
      pub answers_exact : {T : Cells} → 0 < v j → 0 < c t → Answers slots ds t j v c T
          → Exact (length ds) slots (upd (windows_from ds t j) j t false) (less v j true) (less c t true) T
      answers_exact p q s =
          within_exact s.placing s.within (omega (arith, sum_less (length ds) v j m p, sum_less slots c t k q, left_from_totals))

      -- yes
      pub answers_fed : {T : Cells} → free ds j t ≡ true → 0 < v j → 0 < c t → Answers slots ds t j v c T → fed (chosen slots ds counts) j t ≡ true
      answers_fed {T} f p q s =
          let C : Cells = fed (chosen slots ds counts) in
          let y : Exact (length ds) slots (windows_from ds t j) v c (upd T j t true) =
          exact_fed m k (undecided_out (before t j) (free ds) j t (before_self t j) ∙ f) p q (answers_exact p q s) in
          let z = exact_joined (before t j) (sound_bounded w (chosen_sound w counts l e)) (exact_cong (λ i u a b. refl) a.volumes a.loads y) in
          (chosen_fed_iff w counts l e t j k m).1 (
            listed (length ds) slots (joined (before t j) C (upd T j t true)),
            bounded_sound w (joined (before t j) C (upd T j t true)) z,
            (λ i u a b h. fed_listed (length ds) slots (joined (before t j) C (upd T j t true)) i u a b ∙ rw h),
            fed_listed (length ds) slots (joined (before t j) C (upd T j t true)) j t m k ∙ rw (before_self t j) (upd_same T j t true),
          )

      chosen_from_here : chosen_from slots ds counts t j j t ≡ fed (chosen slots ds counts) j t
      chosen_from_here = undecided_out (before t j) (fed (chosen slots ds counts)) j t (before_self t j)

      -- no
      pub no_answer_not_fed : ((T : Cells) → Answers slots ds t j v c T → ⊥) → fed (chosen slots ds counts) j t ≡ false
      no_answer_not_fed h =
          false_of_not_true (fed (chosen slots ds counts) j t)
          (λ f. let x = rw (chosen_from_here ∙ f) at (exact_fixed m k left_from_exact) in
          h (upd (chosen_from slots ds counts t j) j t false) (record { placing = x.0; within = λ u q. (x.1 u q).1 }))

      -- without a question: the volume is used up, or the slot is full
      pub not_fed_used_up : v j ≡ 0 → fed (chosen slots ds counts) j t ≡ false
      not_fed_used_up z =
          false_of_not_true (fed (chosen slots ds counts) j t) (λ f. omega (arith, amounts_fed a t j k m (before_self t j) f))

      pub not_fed_full : c t ≡ 0 → fed (chosen slots ds counts) j t ≡ false
      not_fed_full z =
          false_of_not_true (fed (chosen slots ds counts) j t) (λ f. omega (arith, amounts_fed a t j k m (before_self t j) f))

      -- the step
      pub left_from_next : {b : Bool} → fed (chosen slots ds counts) j t ≡ b → LeftFrom slots ds counts t (suc j) (less v j b) (less c t b)
      left_from_next f = rw f at (amounts_cong (λ i u o q. sym (before_next t j i u)) (amounts_fix a t j k m (before_self t j)))

  pub left_from_next_row : (t : ℕ) {v c : ℕ → ℕ} → LeftFrom slots ds counts t (length ds) v c → LeftFrom slots ds counts (suc t) 0 v c
  left_from_next_row t a = amounts_cong (λ i u m k. sym (before_next_slot (length ds) t i u m)) a
