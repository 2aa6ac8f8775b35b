-- `planning::calls::plan_both` meets its contract. Assumes nothing.
use Rattle.sheet.proofs.OwnCheckLaws.{bytes_read}
use Rattle.planning.specs.Planning.{plan_refusal}
use Rattle.planning.proofs.calls.plan_both.Goals as goal

pub returns : goal.returns
unfolding plan_refusal
returns c = let l = c.plan_both_of.ensures _ _ (bytes_read _ c.read_sheet.ensures) in
    record { value = l.0.0; listing_bytes = l.0.1; placing_bytes = l.1 }
