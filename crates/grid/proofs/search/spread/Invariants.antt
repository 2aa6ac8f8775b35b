-- `grid::search::spread` meets its contract. The loop keeps that full slots were marked, one after another; the measure is how many numbers are left to
-- give. Assumes nothing.
use Prim.Native.Nat.{◌-◌}
use Rattle.grid.specs.Grid.{slots}
use Rattle.grid.specs.Search.{Spread}
use Rattle.grid.proofs.search.spread.Given as goal

abbrev pub invariant-loop-end : goal.invariant-loop-end
invariant-loop-end l = Spread l.fed l.rest l.high l.initial.seen l.initial.order l.initial.front.reached l.initial.front.last l.seen l.order l.front.reached l.front.last

abbrev pub decreases-loop-end : goal.decreases-loop-end
decreases-loop-end l = slots - l.front.last
