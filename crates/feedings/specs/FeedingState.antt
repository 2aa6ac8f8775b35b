-- The state of a loop that chooses the feedings cell after cell: words hold a placing of what is left before the cell. Each step of such a loop answers as
-- the chosen placing does, and keeps the state. Assumes nothing.
use Rattle.std.specs.Prelude.{◌≡◌, refl, Bool, true, false, not, List, ℕ, suc, ◌<◌, length}
use Rattle.std.proofs.Common.{sym, ◌∙◌, arith}
use Rattle.common.specs.Tests.{and_true}
use Rattle.theory.specs.Move.{upd}
use Rattle.schedules.specs.Schedules.{Demand, Windows, volume_of, feasible}
use Rattle.schedules.specs.AsFunctions.{free, fed, bound}
use Rattle.placing.specs.Represents.{Represents}
use Rattle.placing.specs.StepLaws.{represents_feasible}
use Rattle.feedings.specs.CellChoice.{Exactly, Decided}
use Rattle.feedings.specs.ExactlyLaws.{exactly_windows, exactly_some, represents_exactly}
use Rattle.method.specs.Feedings.{chosen, before}
use Rattle.method.proofs.FeedingCells.{before_self}
use Rattle.method.specs.FeedingUndecided.{less}
use Rattle.method.proofs.FeedingUndecided.{less_same, less_other, by_cases, undecided_out}
use Rattle.method.specs.FeedingFunctions.{windows_from, LeftFrom}
use Rattle.method.proofs.FeedingFunctions.{windows_from_first, windows_from_next, windows_from_next_row, left_from_first, left_from_exact, left_from_next, left_from_next_row, answers_fed}

-- before cell (t, j): F, R and H hold a placing of what is left to the volumes and the loads when the cells before it are decided as in the chosen placing
pub record Choosing (slots : ℕ) (ds : List Demand) (counts : List ℕ) (t j : ℕ) (F R H : List ℕ) : Type 0 where
  pub windows : Windows slots ds
  pub each_slot : length counts ≡ slots
  pub possible : feasible slots ds counts counts ≡ true
  pub volumes : ℕ → ℕ
  pub loads : ℕ → ℕ
  pub left : LeftFrom slots ds counts t j volumes loads
  pub held : Exactly (length ds) slots (windows_from ds t j) volumes loads F R H

-- before the first cell: a sound placing with the counts
pub choosing_first : {slots : ℕ} {ds : List Demand} {counts F R H C : List ℕ} → Represents slots ds counts counts F R H C → Choosing slots ds counts 0 0 F R H
choosing_first {ds = ds} {counts = counts} s =
    record {
      windows = s.windows;
      each_slot = s.lows;
      possible = represents_feasible s;
      volumes = volume_of ds;
      loads = bound counts;
      left = left_from_first s.windows counts s.lows (represents_feasible s);
      held = exactly_windows (λ i u m k. sym (windows_from_first ds i u)) (represents_exactly s);
    }

less_nothing : (x : ℕ → ℕ) (j i : ℕ) → less x j false i ≡ x i
less_nothing x j = by_cases (λ i. less x j false i ≡ x i) j (omega (arith, less_same x j false)) (λ i h. less_other x j false i h)

module _ {slots : ℕ} {ds : List Demand} {counts F R H : List ℕ} where
  -- after the last cell of a slot
  pub choosing_next_row : {t : ℕ} → Choosing slots ds counts t (length ds) F R H → Choosing slots ds counts (suc t) 0 F R H
  choosing_next_row {t} a =
      record {
        windows = a.windows;
        each_slot = a.each_slot;
        possible = a.possible;
        volumes = a.volumes;
        loads = a.loads;
        left = left_from_next_row a.windows counts a.each_slot a.possible t a.left;
        held = exactly_windows (λ i u m k. sym (windows_from_next_row ds t i u m)) a.held;
      }

  -- One cell ------------------------------------------------------------------

  module _ {t j : ℕ} (a : Choosing slots ds counts t j F R H) (k : t < slots) (m : j < length ds) {r : Bool} {F' R' H' : List ℕ} (d : Decided r F R H F' R' H' t j) where
    -- some placing of what is left feeds the cell
    choosing_yes : r ≡ true → fed (chosen slots ds counts) j t ≡ true
    choosing_yes e =
        let y = d.yes e (length ds) slots (windows_from ds t j) a.volumes a.loads a.held m k in
        let x = exactly_some y.3 in
        answers_fed a.windows counts a.each_slot a.possible t j a.left k m (and_true (free ds j t) (not (before t j j t)) y.0).0 y.1 y.2
        (record { placing = x.1; within = λ u q. omega (arith, x.2 u q) })

    -- none does, and the chosen placing is one in the cells from this one on
    choosing_no : r ≡ false → fed (chosen slots ds counts) j t ≡ false
    choosing_no e =
        let x = left_from_exact a.windows counts a.each_slot a.possible t j a.left in
        sym (undecided_out (before t j) (fed (chosen slots ds counts)) j t (before_self t j))
        ∙ d.none e (length ds) slots (windows_from ds t j) a.volumes a.loads a.held m k _ x.0 (λ u q. (x.1 u q).1)

    -- the answer is that of the chosen placing
    pub choosing_answer : fed (chosen slots ds counts) j t ≡ r
    choosing_answer = go r refl
      where
        go : (b : Bool) → r ≡ b → fed (chosen slots ds counts) j t ≡ r
        go true e = choosing_yes e ∙ sym e
        go false e = choosing_no e ∙ sym e

    pub choosing_next : Choosing slots ds counts t (suc j) F' R' H'
    choosing_next = go r refl
      where
        windows_next : (i u : ℕ) → i < length ds → u < slots → upd (windows_from ds t j) j t false i u ≡ windows_from ds t (suc j) i u
        windows_next i u x y = sym (windows_from_next ds t j i u)

        go : (b : Bool) → r ≡ b → Choosing slots ds counts t (suc j) F' R' H'
        go true e =
            record {
              windows = a.windows;
              each_slot = a.each_slot;
              possible = a.possible;
              volumes = less a.volumes j true;
              loads = less a.loads t true;
              left = left_from_next a.windows counts a.each_slot a.possible t j a.left k m (choosing_yes e);
              held = exactly_windows windows_next (d.yes e (length ds) slots (windows_from ds t j) a.volumes a.loads a.held m k).3;
            }
        go false e =
            let x = left_from_next a.windows counts a.each_slot a.possible t j a.left k m (choosing_no e) in
            record {
              windows = a.windows;
              each_slot = a.each_slot;
              possible = a.possible;
              volumes = a.volumes;
              loads = a.loads;
              left = record {
                volumes = λ i o. sym (less_nothing a.volumes j i) ∙ x.volumes i o;
                loads = λ u o. sym (less_nothing a.loads t u) ∙ x.loads u o;
              };
              held = exactly_windows windows_next (d.no e (length ds) slots (windows_from ds t j) a.volumes a.loads a.held m k);
            }
