-- `planning::calls::plan_read` meets its contract. Assumes nothing.
use mathlib.Core.Path.{refl}
use mathlib.Core.Bool.{◌||◌}
use Rattle.std.proofs.lemmas.Result.{err_from_is_err_and}
use Rattle.sheet.specs.Calls.{refused}
use Rattle.sheet.proofs.FeedSheetLaws.{ok_read, err_read, err_numbered}
use Rattle.planning.specs.Problem.{whole_day, listing_of, words_for}
use Rattle.planning.specs.Planning.{short_plan, short_placing}
use Rattle.planning.proofs.CallAnswers.{listed_read, placed_read, busy_read}
use Rattle.planning.proofs.calls.plan_read.Goals as goal

pub returns-in_err-sheet : goal.returns-in_err-sheet
unfolding refused
returns-in_err-sheet c = λ own s h high k.
    let e = err_from_is_err_and c.from_residual.result c.from_residual.ensures.1 in
    let r = err_read h c.in_err-sheet.was in
    let n = err_numbered _ r in
    let p = whole_day s high in
    let listing = c.args.listing.now in
    let placing = c.args.placing.now in
    let short = short_plan listing || short_placing placing in
    rw (e.1, e.2)
    (record {
      listed = listed_read r p short n (listing_of p) listing;
      placed = placed_read r p short n (words_for p) placing;
      busy = busy_read r p short n;
    })

pub plan_sheet-requires : goal.plan_sheet-requires
plan_sheet-requires c = (rw c.in_ok-sheet.was at c.requires) refl

pub returns : goal.returns
returns c = λ own s h high k. c.plan_sheet.ensures own s (ok_read h c.in_ok-sheet.was) high (rw c.in_ok-sheet.was at k)
