-- The loop over the cells as functions, for a search that holds one placing of what is left: what is left before cell (t, j) has the windows
-- without the cells before it, volumes v and counts c; a step changes each of them at one place. A placing within the counts answers yes, and
-- only if there is none the answer is no. Assumes nothing.
use Rattle.std.specs.Prelude.{true, false, List, ℕ, ◌≤◌, ◌<◌, length}
use Rattle.theory.specs.Placing.{count, Placing}
use Rattle.theory.specs.Move.{upd}
use Rattle.schedules.specs.Schedules.{Demand}
use Rattle.schedules.specs.AsFunctions.{free, fed}
use Rattle.method.specs.Feedings.{Cells, chosen, before}
use Rattle.method.specs.FeedingResidual.{undecided, Amounts}
use Rattle.method.specs.FeedingUndecided.{less}

-- the windows without the cells before (t, j)
abbrev pub windows_from : List Demand → (t j : ℕ) → Cells
windows_from ds t j = undecided (before t j) (free ds)

-- what the chosen placing feeds in the cells from (t, j) on
abbrev pub chosen_from : (slots : ℕ) → List Demand → (counts : List ℕ) → (t j : ℕ) → Cells
chosen_from slots ds counts t j = undecided (before t j) (fed (chosen slots ds counts))

-- v are its volumes and c its loads: what the residual problem of the lists has (`amounts` of `LeftBefore`)
abbrev pub LeftFrom : (slots : ℕ) → List Demand → (counts : List ℕ) → (t j : ℕ) → (v c : ℕ → ℕ) → Type 0
LeftFrom slots ds counts t j = Amounts (length ds) slots (before t j) (fed (chosen slots ds counts))

-- T feeds each ration as often as is left to it when cell (t, j) is fed, in the cells after it, and no slot more than is left to it then
pub record Answers (slots : ℕ) (ds : List Demand) (t j : ℕ) (v c : ℕ → ℕ) (T : Cells) : Type 0 where
  pub placing : Placing (length ds) slots (upd (windows_from ds t j) j t false) (less v j true) T
  pub within : (u : ℕ) → u < slots → count (length ds) T u ≤ less c t true u
