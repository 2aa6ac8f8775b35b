-- `halls::calls::highs_left` meets its contract. Assumes nothing.
use Rattle.std.proofs.Common.{arith}
use Rattle.sheet.proofs.OwnCheckLaws.{read_small}
use Rattle.sheet.proofs.FeedSheetLaws.{feed_read}
use Rattle.halls.proofs.calls.highs_left.Goals as goal

pub overflow_cast-sheet-in-Ok : goal.overflow_cast-sheet-in-Ok
overflow_cast-sheet-in-Ok c = omega (arith, (read_small (feed_read c.in-Ok.sheet)).1)

pub hall_highs-requires : goal.hall_highs-requires
hall_highs-requires c = ((read_small (feed_read c.in-Ok.sheet)).0, c.told-used)

pub returns-in-Ok : goal.returns-in-Ok
returns-in-Ok c = rw c.in-Ok.is c.hall_highs.ensures

pub returns-in-Err : goal.returns-in-Err
returns-in-Err c = rw c.in-Err.is tt
