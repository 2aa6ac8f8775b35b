-- `planning::calls::plan_listed` meets its contract. Assumes nothing.
use mathlib.Core.Path.{refl, ◌∙◌}
use Rattle.std.proofs.lemmas.Result.{err_from_is_err_and}
use Rattle.sheet.specs.Calls.{refused}
use Rattle.sheet.proofs.FeedSheetLaws.{feed_read, ok_read, err_read, err_numbered}
use Rattle.planning.specs.Problem.{alone, listing_of}
use Rattle.planning.specs.Planning.{short_plan}
use Rattle.planning.proofs.CallAnswers.{short_plan_lem, room_plan, listed_read, listed_short, listed_day}
use Rattle.planning.proofs.calls.plan_listed.Goals as goal

pub returns-in_err-sheet : goal.returns-in_err-sheet
unfolding refused
returns-in_err-sheet c = λ own s h.
    let p = err_from_is_err_and c.from_residual.result c.from_residual.ensures.1 in
    let k = err_read h c.in_err-sheet.was in
    rw (p.1, p.2) (listed_read k (alone s) (short_plan c.args.listing.now) (err_numbered _ k) (listing_of (alone s)) c.args.listing.now)

pub returns-then-listing-lt-PLAN_BYTES : goal.returns-then-listing-lt-PLAN_BYTES
returns-then-listing-lt-PLAN_BYTES c = λ own s h.
    rw c.on.ensures
    (listed_short (ok_read h c.in_ok-sheet.was) (alone s) (short_plan c.args.listing.now) refl (short_plan_lem _ c.if-listing-lt-PLAN_BYTES.true) (listing_of (alone s)) c.args.listing.now)

pub list_day-length-requires : goal.list_day-length-requires
list_day-length-requires c = (
  record { problem = alone _; day = c.day_of-day.ensures _ _ (feed_read c.in_ok-sheet.sheet) refl },
  c.if-listing-lt-PLAN_BYTES.false,
)

pub returns : goal.returns
returns c = λ own s h.
    let k = ok_read h c.in_ok-sheet.was in
    let d = c.day_of-day.ensures own s k refl in
    let l = listed_day k (alone s) (short_plan c.args.listing.now) refl (room_plan _ c.if-listing-lt-PLAN_BYTES.false) d (c.list_day-length.ensures (alone s) d) in
    ((λ i. record { number = c.number_of.ensures i; line = 0; length = c.list_day-length.result }) ∙ l.0, l.1)
