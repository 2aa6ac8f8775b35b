-- `grid::search::carry` meets its contract. The loop keeps what `Carrying` says of the chain made so far; the measure is the number of the slot that it has
-- come back to. Assumes nothing.
use Rattle.grid.specs.CarryLaws.{carrying_start, carrying_parent, carrying_shift, carrying_next}
use Rattle.grid.proofs.search.carry.Goals as goal

pub loop-y-init : goal.loop-y-init
loop-y-init c = carrying_start c.requires

pub parent-p-requires : goal.parent-p-requires
parent-p-requires c = carrying_parent c.requires c.loop-y.invariant c.loop-y-test.true

pub shift-requires : goal.shift-requires
shift-requires c = carrying_shift c.requires c.loop-y.invariant c.parent-p.ensures

pub loop-y-preserved : goal.loop-y-preserved
loop-y-preserved c = carrying_next c.requires c.loop-y.invariant c.parent-p.ensures c.shift.ensures
