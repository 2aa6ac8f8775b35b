-- `grid::search::shift` meets its contract: the lowest ration of the edge goes from x to y. Assumes nothing.
use Rattle.grid.specs.ShiftLaws.{edge_ration, still_bit, ration_moved}
use Rattle.grid.proofs.search.shift.Goals as goal

pub move_bit-requires : goal.move_bit-requires
move_bit-requires c = let l = c.lowest-j.ensures in
    let r = edge_ration _ _ c.args.x c.args.y _ c.requires.grid l.one in (l.below, r.has, r.lacks)

pub move_bit-requires-2 : goal.move_bit-requires-2
move_bit-requires-2 c = let l = c.lowest-j.ensures in
    let r = edge_ration _ _ c.args.x c.args.y _ c.requires.grid l.one in
    (l.below, still_bit _ _ _ c.requires.apart r.wants, still_bit _ _ _ c.requires.apart r.empty)

pub returns : goal.returns
returns c = let a = c.move_bit.ensures in
    let b = c.move_bit-2.ensures in
    ration_moved c.requires (edge_ration _ _ _ _ _ c.requires.grid c.lowest-j.ensures.one) a.0 b.1 a.1 b.0
