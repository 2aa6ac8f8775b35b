-- `grid::search::push` meets its contract: one move, or a chain of any length. Assumes nothing.
use Rattle.grid.specs.StraightLaws.{straight_shift, pushed_straight}
use Rattle.grid.proofs.search.push.Goals as goal

pub shift-requires : goal.shift-requires
shift-requires c = let s = c.in-Some.ensures in straight_shift c.requires s.1 s.0

pub returns-in-Some : goal.returns-in-Some
returns-in-Some c = let s = c.in-Some.ensures in pushed_straight c.requires s.1 s.0 c.shift.ensures
