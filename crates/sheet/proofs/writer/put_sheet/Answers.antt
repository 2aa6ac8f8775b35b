-- `sheet::writer::put_sheet` meets its contract. Assumes nothing.
use mathlib.Core.Path.{refl}
use Rattle.std.proofs.lemmas.Result.{err_from_is_err_and}
use Rattle.sheet.specs.Calls.{refused}
use Rattle.sheet.proofs.FeedSheetLaws.{ok_read, err_read, err_numbered}
use Rattle.sheet.proofs.WriteSteps.{wrote_refused, wrote_short, wrote_read}
use Rattle.sheet.proofs.writer.put_sheet.Goals as goal

pub returns-in_err-sheet : goal.returns-in_err-sheet
unfolding refused
returns-in_err-sheet c = λ own s h.
    let p = err_from_is_err_and c.from_residual.result c.from_residual.ensures.1 in
    let k = err_read h c.in_err-sheet.was in
    rw (p.1, p.2) (wrote_refused k c.args.out.now (err_numbered _ k))

pub returns-then-out-length : goal.returns-then-out-length
returns-then-out-length c = λ own s h. rw c.on.ensures (wrote_short (ok_read h c.in_ok-sheet.was) c.args.out.now refl c.if-out-length.true)

pub returns : goal.returns
returns c = λ own s h.
    wrote_read (ok_read h c.in_ok-sheet.was) c.args.out.now refl c.if-out-length.false _ _ c.put_line.ensures c.put_rations.ensures
