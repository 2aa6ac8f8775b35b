-- `grid::search::push_along` meets its contract. Assumes nothing.
use Rattle.grid.specs.CarryLaws.{push_spread, pushed_won}
use Rattle.grid.proofs.search.push_along.Goals as goal

pub spread-requires : goal.spread-requires
spread-requires c = push_spread c.requires

pub returns : goal.returns
returns c = let s = c.in-Some.ensures in pushed_won c.requires s.1 s.0 c.carry.ensures
