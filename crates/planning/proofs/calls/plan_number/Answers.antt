-- `planning::calls::plan_number` meets its contract. Assumes nothing.
use Rattle.sheet.proofs.OwnCheckLaws.{bytes_read}
use Rattle.planning.specs.Planning.{plan_refusal}
use Rattle.planning.proofs.calls.plan_number.Goals as goal

pub returns : goal.returns
unfolding plan_refusal
returns c = c.plan_number_of.ensures _ _ (bytes_read _ c.read_sheet.ensures)
