-- `grid::search::sweep` meets its contract. The loop keeps what `Sweeping` says of the slots passed. Assumes nothing.
use Rattle.grid.specs.SpreadLaws.{Sweeping}
use Rattle.grid.proofs.search.sweep.Given as goal

abbrev pub invariant-loop-y : goal.invariant-loop-y
invariant-loop-y l = Sweeping l.fed l.rest l.high l.initial.seen l.initial.order l.fn.front.reached l.fn.front.last l.seen l.order l.next.reached l.next.last l.y
