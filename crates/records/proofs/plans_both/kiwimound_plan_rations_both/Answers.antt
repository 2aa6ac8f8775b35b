-- `records::plans_both::kiwimound_plan_rations_both` meets its contract: it is that of the call, for what the records are read as.
-- Assumes nothing.
use Rattle.std.proofs.Common.{sym, subst}
use Rattle.sheet.specs.OwnChecks.{ReadFrom}
use Rattle.records.specs.Records.{record_sheet, record_faults}
use Rattle.records.specs.ReadSteps.{records_read}
use Rattle.records.proofs.plans_both.kiwimound_plan_rations_both.Goals as goal

pub returns : goal.returns
returns c =
    let s = record_sheet c.args.slots c.args.blowers c.args.wake c.args.rations.now in
    let l = c.plan_both_of.ensures _ _ (subst (ReadFrom (record_faults s) s) (sym c.read_rations-sheet.ensures) (records_read s)) in
    (l.0.0, l.0.1, l.1)
