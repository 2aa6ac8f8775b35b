-- `planning::calls::day_under` meets its contract. Assumes nothing.
use mathlib.Core.Path.{refl}
use Rattle.std.proofs.Common.{arith}
use Rattle.placing.specs.ReadLaws.{sheet_read_lem}
use Rattle.sheet.proofs.FeedSheetLaws.{feed_read}
use Rattle.planning.proofs.DayLaws.{day_under}
use Rattle.planning.proofs.calls.day_under.Goals as goal

pub overflow_cast-sheet-2 : goal.overflow_cast-sheet-2
overflow_cast-sheet-2 c = omega (arith, (sheet_read_lem (feed_read c.args.sheet.now) refl).blown)

pub plan_day-requires : goal.plan_day-requires
plan_day-requires c = ((sheet_read_lem (feed_read c.args.sheet.now) refl).rations, c.requires)

pub returns : goal.returns
returns c = λ own s h z high k. day_under h z k c.plan_day.ensures
