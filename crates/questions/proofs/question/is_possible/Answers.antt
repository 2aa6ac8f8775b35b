-- `questions::question::is_possible` meets its contract: the sheet is refused, a list is refused, a low is above its
-- high, or the answer is that of the search. Assumes nothing.
use mathlib.Core.Path.{refl, sym, ◌∙◌}
use Rattle.std.proofs.Common.{arith}
use Rattle.std.proofs.lemmas.Result.{err_from_is_err_and}
use Rattle.placing.specs.RationLaws.{rations_longest}
use Rattle.placing.specs.ReadLaws.{sheet_read_lem}
use Rattle.sheet.specs.Calls.{refused}
use Rattle.sheet.proofs.FeedSheetLaws.{feed_read, ok_read, err_read, err_numbered}
use Rattle.questions.specs.BoundsSteps.{bounds_refused, bounds_unequal, lows_short, highs_short, high_long, bounds_disordered, lows_cut, bounds_can, bounds_answer}
use Rattle.questions.proofs.question.is_possible.Goals as goal

pub returns-in_err-sheet : goal.returns-in_err-sheet
unfolding refused
returns-in_err-sheet c = λ own s h.
    let p = err_from_is_err_and c.from_residual.result c.from_residual.ensures.1 in
    let k = err_read h c.in_err-sheet.was in
    rw (p.1, p.2) (bounds_refused k _ _ (err_numbered _ k))

pub returns-then-is_faulty : goal.returns-then-is_faulty
returns-then-is_faulty c = λ own s h. rw c.on.ensures (bounds_unequal (ok_read h c.in_ok-sheet.was) _ _ refl (sym c.if-is_faulty.true ∙ c.is_faulty.ensures))

pub cut-high-requires : goal.cut-high-requires
cut-high-requires c = let h = feed_read c.in_ok-sheet.sheet in (
  (sheet_read_lem h refl).blown,
  highs_short h _ _ refl (sym c.if-is_faulty.false ∙ c.is_faulty.ensures),
)

pub are_ordered-requires : goal.are_ordered-requires
are_ordered-requires c = let h = feed_read c.in_ok-sheet.sheet in (
  lows_short h _ _ refl (sym c.if-is_faulty.false ∙ c.is_faulty.ensures),
  high_long h _ _ refl (sym c.if-is_faulty.false ∙ c.is_faulty.ensures) _ c.cut-high.ensures,
)

pub returns-then-not-are_ordered : goal.returns-then-not-are_ordered
returns-then-not-are_ordered c = λ own s h.
    bounds_disordered (ok_read h c.in_ok-sheet.was) _ _ refl (sym c.if-is_faulty.false ∙ c.is_faulty.ensures)
    _ c.cut-high.ensures
    (sym (c.if-not-are_ordered.true) ∙ c.are_ordered.ensures)

pub cut-low-requires : goal.cut-low-requires
cut-low-requires c = (omega arith, lows_short (feed_read c.in_ok-sheet.sheet) _ _ refl (sym c.if-is_faulty.false ∙ c.is_faulty.ensures))

pub mark_windows-requires : goal.mark_windows-requires
mark_windows-requires c = (rations_longest (sheet_read_lem (feed_read c.in_ok-sheet.sheet) refl).rations, refl)

pub volumes_of-volumes-requires : goal.volumes_of-volumes-requires
volumes_of-volumes-requires c = rations_longest (sheet_read_lem (feed_read c.in_ok-sheet.sheet) refl).rations

pub is_feasible-requires : goal.is_feasible-requires
is_feasible-requires c = bounds_can (feed_read c.in_ok-sheet.sheet) _ _ refl (sym c.if-is_faulty.false ∙ c.is_faulty.ensures)
    _ c.cut-high.ensures (sym (c.if-not-are_ordered.false) ∙ c.are_ordered.ensures)
    _ (c.cut-low.ensures ∙ lows_cut (feed_read c.in_ok-sheet.sheet) _ _ refl (sym c.if-is_faulty.false ∙ c.is_faulty.ensures)
    _ c.cut-high.ensures (sym (c.if-not-are_ordered.false) ∙ c.are_ordered.ensures))
    c.mark_windows.ensures c.volumes_of-volumes.ensures

pub returns : goal.returns
returns c = λ own s h.
    bounds_answer (ok_read h c.in_ok-sheet.was) _ _ refl (sym c.if-is_faulty.false ∙ c.is_faulty.ensures)
    _ c.cut-high.ensures (sym (c.if-not-are_ordered.false) ∙ c.are_ordered.ensures)
    _ (c.cut-low.ensures ∙ lows_cut (feed_read c.in_ok-sheet.sheet) _ _ refl (sym c.if-is_faulty.false ∙ c.is_faulty.ensures)
    _ c.cut-high.ensures (sym (c.if-not-are_ordered.false) ∙ c.are_ordered.ensures))
    c.mark_windows.ensures c.volumes_of-volumes.ensures _ c.is_feasible.ensures
