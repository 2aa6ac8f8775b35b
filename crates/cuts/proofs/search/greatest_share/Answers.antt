-- `cuts::search::greatest_share` meets its contract: the greatest share lies between the two ends, and while more than
-- one share is left, so is a question. Assumes nothing.
use Rattle.std.proofs.Common.{◌≡◌, ◌^◌, ap, sym, length-take-le}
use Rattle.sheet.proofs.FeedSheetLaws.{feed_sheet_read}
use Rattle.placing.specs.RationLaws.{rations_longest}
use Rattle.cuts.proofs.SearchSteps.{ask_first, sheet_rations, few_blowers, ends_begin, ends_most, ends_apart, ends_met, question_left}
use native.Mathlib.Omega.{arith}
use Rattle.cuts.proofs.search.greatest_share.Goals as goal

pub mark_windows-requires : goal.mark_windows-requires
mark_windows-requires c = (rations_longest (sheet_rations (feed_sheet_read c.args.sheet.now)), ap (λ w. w.rest) c.new-words.ensures)

pub overflow_cast-sheet-2 : goal.overflow_cast-sheet-2
overflow_cast-sheet-2 c = omega (arith, few_blowers (feed_sheet_read c.args.sheet.now))

pub set_highs-requires : goal.set_highs-requires
set_highs-requires c = ((sheet_rations (feed_sheet_read c.args.sheet.now)).short, ap (λ w. w.high) c.new-words.ensures)

pub slice_bounds-least_deficient-end : goal.slice_bounds-least_deficient-end
slice_bounds-least_deficient-end c = sym (length-take-le _ _ (omega (arith, (sheet_rations (feed_sheet_read c.args.sheet.now)).short)))

pub slice_bounds-all-end : goal.slice_bounds-all-end
slice_bounds-all-end c = omega (arith, (sheet_rations (feed_sheet_read c.args.sheet.now)).short)

pub loop-left-init : goal.loop-left-init
loop-left-init c =
    let e = c.least_deficient.ensures in (
      rw (ap (λ w. w.fed) c.new-words.ensures) (ask_first c.set_highs.ensures c.mark_windows.ensures),
      ends_begin (feed_sheet_read c.args.sheet.now) e.1 e.2 c.spread_share-low.ensures.0 e.0,
      omega (arith, e.2),
    )

pub overflow_add-ends-in-loop-left : goal.overflow_add-ends-in-loop-left
overflow_add-ends-in-loop-left c =
    let p = feed_sheet_read c.args.sheet.now in
    let b = c.loop-left.invariant.1 in omega (arith, ends_most p b, ends_apart p b)

pub narrow-ends-requires : goal.narrow-ends-requires
narrow-ends-requires c =
    let i = c.loop-left.invariant in
    let l = ends_apart (feed_sheet_read c.args.sheet.now) i.1 in
    (i.0, i.1, omega (arith, l), (question_left _ c.loop-left.ends.low c.loop-left.auto.left (omega (arith, l)) i.2).1)

pub returns-after-loop-left : goal.returns-after-loop-left
returns-after-loop-left c =
    let none : c.loop-left.left ≡ 0 = omega arith in
    ends_met (feed_sheet_read c.args.sheet.now) c.loop-left.invariant.1 (omega (arith, c.loop-left.invariant.2, ap (λ k. 2 ^ k) none))

pub returns-then-ends : goal.returns-then-ends
returns-then-ends c = ends_met (feed_sheet_read c.args.sheet.now) c.loop-left.invariant.1 (omega arith)
