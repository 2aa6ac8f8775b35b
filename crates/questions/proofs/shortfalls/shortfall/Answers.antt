-- `questions::shortfalls::shortfall` meets its contract. Assumes nothing.
use Rattle.sheet.proofs.OwnCheckLaws.{bytes_read}
use Rattle.questions.specs.Calls.{shortfall_of}
use Rattle.questions.proofs.shortfalls.shortfall.Goals as goal

pub returns : goal.returns
unfolding shortfall_of
returns c = c.shortfall_of.ensures _ _ (bytes_read _ c.read_sheet.ensures)
