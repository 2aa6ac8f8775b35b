-- `cuts::search::narrow` meets its contract. Assumes nothing.
use Rattle.sheet.proofs.FeedSheetLaws.{feed_sheet_read}
use Rattle.cuts.proofs.SearchSteps.{sheet_rations, ends_most, share_none}
use native.Mathlib.Omega.{arith}
use Rattle.cuts.proofs.search.narrow.Goals as goal

pub asked-share-requires : goal.asked-share-requires
asked-share-requires c = let p = c.requires in (omega (arith, p.2), ends_most (feed_sheet_read c.args.sheet.now) p.1, p.3)

pub can_share-requires : goal.can_share-requires
can_share-requires c = let p = c.requires in (p.0, omega (arith, c.asked-share.ensures.1, ends_most (feed_sheet_read c.args.sheet.now) p.1))

pub least_deficient-high-requires : goal.least_deficient-high-requires
least_deficient-high-requires c = let p = c.requires in
    let e = c.asked-share.ensures in (
      share_none (feed_sheet_read c.args.sheet.now) p.1 _ c.can_share.ensures.share_answered c.if-can_share.false,
      e.0,
      omega (arith, e.1, ends_most (feed_sheet_read c.args.sheet.now) p.1),
    )

pub shared_ref_as_front-least_deficient : goal.shared_ref_as_front-least_deficient
shared_ref_as_front-least_deficient c = omega (arith, (sheet_rations (feed_sheet_read c.args.sheet.now)).short)
