-- `questions::question::bounds` meets its contract. Assumes nothing.
use Rattle.sheet.proofs.OwnCheckLaws.{bytes_read}
use Rattle.questions.specs.Calls.{bounds_of}
use Rattle.questions.proofs.question.bounds.Goals as goal

pub returns : goal.returns
unfolding bounds_of
returns c = c.bounds_of.ensures _ _ (bytes_read _ c.read_sheet.ensures)
