-- `grid::search::spread` meets its contract. The loop keeps that full slots were marked, one after another; the measure is how many numbers are left to
-- give. Assumes nothing.
use Rattle.std.proofs.Common.{arith}
use Rattle.grid.specs.Search.{none}
use Rattle.grid.specs.FrontLaws.{front_spread}
use Rattle.grid.specs.SpreadLaws.{front_start, front_sweep, sought_found, sought_lost, front_less, spread_next}
use Rattle.grid.proofs.search.spread.Goals as goal

pub loop-end-init : goal.loop-end-init
loop-end-init c = none

pub sweep-requires : goal.sweep-requires
sweep-requires c = front_sweep c.requires (front_spread (front_start c.requires) c.loop-end.invariant)

pub returns-in-Break : goal.returns-in-Break
returns-in-Break c = let s = c.in-Break.ensures in
    (s.0, sought_found c.requires (front_spread (front_start c.requires) c.loop-end.invariant) s.1.2 s.0)

pub returns-then-next-front : goal.returns-then-next-front
returns-then-next-front c = sought_lost c.requires (front_spread (front_start c.requires) c.loop-end.invariant) c.in-Continue.ensures
    (omega arith) c.if-next-front.true

pub loop-end-smaller : goal.loop-end-smaller
loop-end-smaller c = front_less c.requires (front_spread (front_start c.requires) c.loop-end.invariant) c.in-Continue.ensures
    (omega arith) c.if-next-front.false

pub loop-end-preserved : goal.loop-end-preserved
loop-end-preserved c = spread_next c.loop-end.invariant c.in-Continue.ensures (omega arith)
