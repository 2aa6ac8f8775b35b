-- `shares::calls::plan_cut` meets its contract. Assumes nothing.
use mathlib.Core.Path.{refl}
use Rattle.std.proofs.lemmas.Result.{err_from_is_err_and}
use Rattle.sheet.specs.Calls.{refused}
use Rattle.sheet.proofs.OwnCheckLaws.{bytes_read}
use Rattle.sheet.proofs.FeedSheetLaws.{err_numbered}
use Rattle.planning.specs.Planning.{short_plan, short_placing}
use Rattle.planning.proofs.CallAnswers.{room_plan, room_placing, either_short, neither}
use Rattle.shares.proofs.ShareSteps.{share_refused_lem, share_short, share_within, share_done}
use Rattle.shares.proofs.calls.plan_cut.Goals as goal

pub returns-in_err-sheet : goal.returns-in_err-sheet
unfolding refused
returns-in_err-sheet c =
    let p = err_from_is_err_and c.from_residual.result c.from_residual.ensures.1 in
    let k = bytes_read _ (rw c.in_err-sheet.was at c.read_sheet.ensures) in
    rw (p.1, p.2) (share_refused_lem c.args.b.now c.args.listing.now c.args.placing.now k (err_numbered _ k))

pub returns-then-listing-lt-PLAN_BYTES : goal.returns-then-listing-lt-PLAN_BYTES
returns-then-listing-lt-PLAN_BYTES c =
    let listing = c.args.listing.now in
    let placing = c.args.placing.now in
    let k = bytes_read _ (rw c.in_ok-sheet.was at c.read_sheet.ensures) in
    rw c.on.ensures (share_short c.args.b.now listing placing k refl (either_short listing placing c.then-listing-lt-PLAN_BYTES.either))

pub cut_sheet-cut-requires : goal.cut_sheet-cut-requires
cut_sheet-cut-requires c =
    let k = bytes_read _ (rw c.in_ok-sheet.was at c.read_sheet.ensures) in
    share_within c.args.b.now k c.greatest_share-share.ensures

pub returns : goal.returns
returns c =
    let listing = c.args.listing.now in
    let placing = c.args.placing.now in
    let k = bytes_read _ (rw c.in_ok-sheet.was at c.read_sheet.ensures) in
    let f = neither (short_plan listing) (short_placing placing) (room_plan listing c.if-listing-lt-PLAN_BYTES.false) (room_placing placing c.if-placing-lt-PLACING_WORDS.false) in
    share_done c.args.b.now listing placing k refl f c.greatest_share-share.ensures c.cut_sheet-cut.ensures c.plan_both_of-planned.ensures
