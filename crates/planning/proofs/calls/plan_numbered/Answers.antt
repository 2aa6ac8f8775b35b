-- `planning::calls::plan_numbered` meets its contract. Assumes nothing.
use mathlib.Core.Path.{refl, ◌∙◌}
use mathlib.Core.Bool.{false}
use Rattle.std.proofs.lemmas.Result.{err_from_is_err_and}
use Rattle.sheet.specs.Calls.{refused}
use Rattle.sheet.proofs.FeedSheetLaws.{ok_read, err_read, err_numbered}
use Rattle.planning.specs.Problem.{alone}
use Rattle.planning.proofs.CallAnswers.{unlisted_read, unlisted_day}
use Rattle.planning.proofs.calls.plan_numbered.Goals as goal

pub returns-in_err-sheet : goal.returns-in_err-sheet
unfolding refused
returns-in_err-sheet c = λ own s h.
    let p = err_from_is_err_and c.from_residual.result c.from_residual.ensures.1 in
    let k = err_read h c.in_err-sheet.was in
    rw (p.1, p.2) (unlisted_read k (alone s) false (err_numbered _ k))

pub returns : goal.returns
returns c = λ own s h.
    let k = ok_read h c.in_ok-sheet.was in
    (λ i. record { number = c.number_of.ensures i; line = 0; length = 0 }) ∙ unlisted_day k (alone s) false refl refl (c.day_of.ensures own s k refl)
