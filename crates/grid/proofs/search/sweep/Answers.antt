-- `grid::search::sweep` meets its contract. The loop keeps what `Sweeping` says of the slots passed. Assumes nothing.
use Rattle.std.proofs.Common.{arith}
use Rattle.grid.specs.SpreadLaws.{sweeping_start, sweeping_next, swept_found, swept_passed}
use Rattle.grid.proofs.search.sweep.Goals as goal

pub loop-y-init : goal.loop-y-init
loop-y-init c = sweeping_start c.requires

pub returns-in_err-next : goal.returns-in_err-next
returns-in_err-next c = let l = c.in_err-next.ensures in
    rw c.from_residual.ensures (l.0, (_, _, swept_found c.loop-y.invariant l.1 l.0))

pub loop-y-preserved : goal.loop-y-preserved
loop-y-preserved c = sweeping_next c.loop-y.invariant (omega (arith, c.loop-y-test.true)) c.in_ok-next.ensures (omega arith)

pub returns : goal.returns
returns c = swept_passed c.loop-y.invariant (omega (arith, c.loop-y-test.false))
