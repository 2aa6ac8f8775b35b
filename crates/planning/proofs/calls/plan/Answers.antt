-- `planning::calls::plan` meets its contract. Assumes nothing.
use Rattle.sheet.proofs.OwnCheckLaws.{bytes_read}
use Rattle.planning.specs.Planning.{plan_refusal}
use Rattle.planning.proofs.calls.plan.Goals as goal

pub returns : goal.returns
unfolding plan_refusal
returns c = let all = c.plan_of.ensures _ _ (bytes_read _ c.read_sheet.ensures) in record { value = all.0; listing_bytes = all.1 }
