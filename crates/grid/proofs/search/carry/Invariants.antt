-- `grid::search::carry` meets its contract. The loop keeps what `Carrying` says of the chain made so far; the measure is the number of the slot that it has
-- come back to. Assumes nothing.
use Rattle.grid.specs.Grid.{at}
use Rattle.grid.specs.CarryLaws.{Carrying}
use Rattle.grid.proofs.search.carry.Given as goal

abbrev pub invariant-loop-y : goal.invariant-loop-y
invariant-loop-y l = Carrying l.initial.fed l.initial.rest l.order l.fed l.rest l.y l.e

abbrev pub decreases-loop-y : goal.decreases-loop-y
decreases-loop-y l = at l.order l.y
