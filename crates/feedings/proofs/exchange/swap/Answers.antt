-- `feedings::exchange::swap` meets its contract. Assumes nothing.
use Rattle.std.proofs.Common.{refl}
use Rattle.feedings.specs.CellMayLaws.{swap_shift, swapped}
use Rattle.feedings.proofs.exchange.swap.Goals as goal

pub shift-requires : goal.shift-requires
shift-requires c = let m = c.move_bit.ensures in swap_shift c.requires.0 c.requires.1 _ _ m.0 m.1

pub returns : goal.returns
returns c = let m = c.move_bit.ensures in
    record { swapped = swapped c.requires.0 c.requires.1 _ _ m.0 m.1 c.shift.ensures; spares = refl; marks = refl }
