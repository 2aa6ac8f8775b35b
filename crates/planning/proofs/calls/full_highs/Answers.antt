-- `planning::calls::full_highs` meets its contract. Assumes nothing.
use Rattle.std.proofs.Common.{arith}
use mathlib.Core.Path.{refl}
use Rattle.sheet.proofs.OwnCheckLaws.{read_small}
use Rattle.sheet.proofs.FeedSheetLaws.{feed_read}
use Rattle.planning.proofs.calls.full_highs.Goals as goal

pub overflow_cast-sheet-2 : goal.overflow_cast-sheet-2
overflow_cast-sheet-2 c = omega (arith, (read_small (feed_read c.args.sheet.now)).1)

pub set_highs-requires : goal.set_highs-requires
set_highs-requires c = ((read_small (feed_read c.args.sheet.now)).0, refl)

pub returns : goal.returns
returns c = c.set_highs.ensures
