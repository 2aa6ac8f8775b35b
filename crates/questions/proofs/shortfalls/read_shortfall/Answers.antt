-- `questions::shortfalls::read_shortfall` meets its contract. Assumes nothing.
use Rattle.std.proofs.lemmas.Result.{err_from_is_err_and}
use Rattle.sheet.specs.Calls.{refused}
use Rattle.sheet.proofs.FeedSheetLaws.{ok_read, err_read, err_numbered}
use Rattle.questions.specs.ShortfallSteps.{shortfall_refused}
use Rattle.questions.proofs.shortfalls.read_shortfall.Goals as goal

pub returns-in_err-sheet : goal.returns-in_err-sheet
unfolding refused
returns-in_err-sheet c = λ own s h.
    let p = err_from_is_err_and c.from_residual.result c.from_residual.ensures.1 in
    let k = err_read h c.in_err-sheet.was in
    rw (p.1, p.2) (shortfall_refused k _ (err_numbered _ k))

pub returns : goal.returns
returns c = λ own s h. c.shortfall_on.ensures own s (ok_read h c.in_ok-sheet.was)
