-- `grid::search::parent` meets its contract. The loop has passed no parent of e, and there is one. Assumes nothing.
use Rattle.grid.specs.CarryLaws.{Seeking}
use Rattle.grid.proofs.search.parent.Given as goal

abbrev pub invariant-loop-p : goal.invariant-loop-p
invariant-loop-p l = Seeking l.fed l.rest l.order l.e l.p
