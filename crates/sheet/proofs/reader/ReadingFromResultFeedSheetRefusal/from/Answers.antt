-- The conversion of what was read to a reading gives what it says. Assumes nothing.
use mathlib.Core.Path.{refl}
use Rattle.sheet.specs.Calls.{refused}
use Rattle.sheet.proofs.reader.ReadingFromResultFeedSheetRefusal.from.Goals as goal

pub returns-in-Err : goal.returns-in-Err
unfolding refused
returns-in-Err c = rw c.in-Err.is refl
