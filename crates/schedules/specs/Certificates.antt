-- What a search must know of the grid that it leaves, a placing S as a function of demand and slot, to have decided the question: loads
-- within the bounds, or a closed set of full slots. Demands and slots are counted from 0. Assumes nothing.
use Rattle.std.specs.Prelude.{Bool, List, ℕ, length}
use Rattle.theory.specs.Placing.{Placing}
use Rattle.theory.specs.Placing as F
use Rattle.schedules.specs.Schedules.{Demand, volume_of}
use Rattle.schedules.specs.AsFunctions.{free}

-- S gives each demand its volume of slots of its window
abbrev pub Places : ℕ → List Demand → (ℕ → ℕ → Bool) → Type 0
Places slots ds S = Placing (length ds) slots (free ds) (volume_of ds) S

-- the load of slot t
abbrev pub load_of : List Demand → (ℕ → ℕ → Bool) → ℕ → ℕ
load_of ds S t = F.count (length ds) S t
