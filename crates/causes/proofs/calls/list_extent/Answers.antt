-- `causes::calls::list_extent` meets its contract. Assumes nothing.
use mathlib.Core.Path.{refl, ◌∙◌}
use Rattle.std.proofs.Common.{arith}
use Rattle.std.proofs.lemmas.Result.{err_from_is_err_and}
use Rattle.sheet.specs.Calls.{refused}
use Rattle.sheet.proofs.OwnCheckLaws.{bytes_read}
use Rattle.sheet.proofs.FeedSheetLaws.{feed_read, err_numbered}
use Rattle.placing.specs.ReadLaws.{sheet_read_lem}
use Rattle.planning.specs.Planning.{plan_refusal}
use Rattle.causes.specs.CauseCalls.{short_causes}
use Rattle.causes.specs.CauseAnswers.{short_causes_lem, room_causes, causes_read, causes_short, causes_found}
use Rattle.causes.proofs.calls.list_extent.Goals as goal

pub returns-in_err-sheet : goal.returns-in_err-sheet
unfolding refused plan_refusal
returns-in_err-sheet c =
    let p = err_from_is_err_and c.from_residual.result c.from_residual.ensures.1 in
    let k = bytes_read _ (rw c.in_err-sheet.was at c.read_sheet.ensures) in
    rw (p.1, p.2) (causes_read k (short_causes c.args.out.now) (err_numbered _ k) c.args.out.now)

pub returns-then-out-lt-CAUSES_BYTES : goal.returns-then-out-lt-CAUSES_BYTES
unfolding plan_refusal
returns-then-out-lt-CAUSES_BYTES c =
    let k = bytes_read _ (rw c.in_ok-sheet.was at c.read_sheet.ensures) in
    rw c.on.ensures (causes_short k (short_causes c.args.out.now) refl (short_causes_lem _ c.if-out-lt-CAUSES_BYTES.true) c.args.out.now)

pub overflow_cast-sheet-2 : goal.overflow_cast-sheet-2
overflow_cast-sheet-2 c = omega (arith, (sheet_read_lem (feed_read c.in_ok-sheet.sheet) refl).blown)

pub list_day-extent-requires : goal.list_day-extent-requires
list_day-extent-requires c = ((sheet_read_lem (feed_read c.in_ok-sheet.sheet) refl).rations, c.if-out-lt-CAUSES_BYTES.false)

pub returns : goal.returns
unfolding plan_refusal
returns c =
    let k = bytes_read _ (rw c.in_ok-sheet.was at c.read_sheet.ensures) in
    rw (c.ok_or.ensures.value, c.on-2.ensures)
    (causes_found k (short_causes c.args.out.now) refl (room_causes _ c.if-out-lt-CAUSES_BYTES.false) c.args.out.now _ _ c.list_day-extent.ensures)
