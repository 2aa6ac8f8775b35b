-- `endings::settling::list_stretches` meets its contract. Assumes nothing.
use native.Mathlib.Omega.{arith}
use Rattle.endings.specs.ListingSteps.{blowers_begin, blowers_list, blowers_cut, blowers_next, blowers_end}
use Rattle.endings.proofs.settling.list_stretches.Goals as goal

pub loop-k-init : goal.loop-k-init
loop-k-init c = blowers_begin c.requires

pub returns-then-so_far : goal.returns-then-so_far
returns-then-so_far c = blowers_cut c.loop-k.invariant c.if-so_far.true

pub list_blower-so_far-requires : goal.list_blower-so_far-requires
list_blower-so_far-requires c = (blowers_list c.loop-k.invariant, c.loop-k-test.true)

pub loop-k-preserved : goal.loop-k-preserved
loop-k-preserved c = blowers_next c.loop-k-test.true c.loop-k.invariant c.list_blower-so_far.ensures

pub returns : goal.returns
returns c = blowers_end c.loop-k.invariant (omega (arith, c.loop-k-test.false))
