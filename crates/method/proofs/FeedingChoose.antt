-- The chosen placing, cell after cell: a loop over the slots and in each over the rations, whose state is what is left, gives it. Assumes nothing.
use Rattle.std.specs.Prelude.{◌≡◌, true, length, get_or}
use Rattle.std.proofs.Math.Path.{sym}
use Rattle.std.proofs.Common.{◌∙◌, arith}
use Rattle.std.proofs.Math.Bool.{false}
use mathlib.Core.List.{List, []}
use Prim.Native.Nat.{ℕ, zero, suc, ◌≤◌, ◌<◌}
use Rattle.common.specs.Tests.{bool_ext}
use Rattle.schedules.specs.Schedules.{Demand, Windows, feasible}
use Rattle.schedules.specs.Tabulate.{tab_unique}
use Rattle.schedules.specs.AsFunctions.{fed}
use Rattle.method.specs.Feedings.{chosen}
use Rattle.method.proofs.FeedingCells.{before_first, before_self, before_next, before_next_slot}
use Rattle.method.proofs.FeedingLaws.{chosen_sound, chosen_fed_iff}
use Rattle.method.specs.FeedingResidual.{Residual, fix, may_feed, choice, completable, LeftBefore, in_slot, after_slots, residual_at, choose}
use Rattle.method.proofs.FeedingResidualLaws.{left_none, left_cong, left_fix, left_completable, choice_iff}

-- a cell that may not be fed is decided without a question
pub choice_not_may : (slots t j : ℕ) (r : Residual) → may_feed t j r ≡ false → choice slots t j r ≡ false
unfolding choice
choice_not_may slots t j r e = rw e

module _ {slots : ℕ} {ds : List Demand} (w : Windows slots ds) (counts : List ℕ) (l : length counts ≡ slots) (e : feasible slots ds counts counts ≡ true) where
  pub before_first_cell : LeftBefore slots ds counts 0 0 (record { demands = ds; counts = counts })
  before_first_cell = left_none w l (chosen_sound w counts l e) before_first

  module _ (t j : ℕ) {r : Residual} (a : LeftBefore slots ds counts t j r) where
    -- a placing of what is left exists
    pub before_completable : completable slots r ≡ true
    before_completable = left_completable w (chosen_sound w counts l e) a

    -- the choice is that of the chosen placing
    pub choice_chosen : t < slots → j < length ds → choice slots t j r ≡ fed (chosen slots ds counts) j t
    choice_chosen k m =
        let x = choice_iff w t j k m (before_self t j) (chosen_sound w counts l e) a in
        let y = chosen_fed_iff w counts l e t j k m in
        bool_ext (choice slots t j r) (fed (chosen slots ds counts) j t) (λ f. y.1 (x.0 f)) (λ f. x.1 (y.0 f))

    pub before_next_cell : t < slots → j < length ds → LeftBefore slots ds counts t (suc j) (fix t j (choice slots t j r) r)
    before_next_cell k m = rw (choice_chosen k m) (left_cong (λ i u a b. sym (before_next t j i u)) (left_fix a t j k m (before_self t j)))

  pub before_next_row : (t : ℕ) {r : Residual} → LeftBefore slots ds counts t (length ds) r → LeftBefore slots ds counts (suc t) 0 r
  before_next_row t a = left_cong (λ i u m k. sym (before_next_slot (length ds) t i u m)) a

  -- The loop ------------------------------------------------------------------

  left_in_slot : (t : ℕ) {r : Residual} → t < slots → LeftBefore slots ds counts t 0 r → (j : ℕ) → j ≤ length ds → LeftBefore slots ds counts t j (in_slot slots (length ds) t j r)
  unfolding in_slot
  left_in_slot t k a zero m = a
  left_in_slot t k a (suc j) m = before_next_cell t j (left_in_slot t k a j (omega arith)) k (omega arith)

  left_after_slots : (t : ℕ) → t ≤ slots → LeftBefore slots ds counts t 0 (after_slots slots (length ds) t (record { demands = ds; counts = counts }))
  unfolding after_slots
  left_after_slots zero k = before_first_cell
  left_after_slots (suc t) k = before_next_row t (left_in_slot t (omega arith) (left_after_slots t (omega arith)) (length ds) (omega arith))

  pub left_residual_at : (t j : ℕ) → t < slots → j ≤ length ds → LeftBefore slots ds counts t j (residual_at slots (length ds) t j (record { demands = ds; counts = counts }))
  left_residual_at t j k m = left_in_slot t k (left_after_slots t (omega arith)) j m

  -- the choices cell after cell make the chosen placing
  pub choose_chosen : choose slots ds counts ≡ chosen slots ds counts
  unfolding choose
  choose_chosen =
      let s = chosen_sound w counts l e in
      sym (tab_unique [] (chosen slots ds counts) (length ds) _ s.for_each
      (λ j m. tab_unique false (get_or (chosen slots ds counts) j []) slots _ ((s.served j m).same_day ∙ w.all_day j m)
      (λ t k. sym (choice_chosen t j (left_residual_at t j k (omega arith)) k m))))
