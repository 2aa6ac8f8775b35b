-- `cuts::search::is_deficient` meets its contract. Assumes nothing.
use Rattle.std.proofs.Common.{sym, ap, ◌∙◌}
use Rattle.std.proofs.lemmas.Bool.{false≢true}
use mir.Syntax.{w32}
use mir.Facts.{to_z-of_z}
use lib.IntN.{pos}
use lib.Signed.{lt_z}
use Rattle.sheet.proofs.FeedSheetLaws.{feed_sheet_read}
use Rattle.cuts.proofs.SearchSteps.{deficient_is, deficient_none}
use Rattle.cuts.proofs.search.is_deficient.Goals as goal

pub returns-in-Ok : goal.returns-in-Ok
returns-in-Ok c =
    let told = rw c.in-Ok.is at c.shortfall_on.type_inv in
    let back = to_z-of_z {w = w32} {z = c.in-Ok.shortfall} (record { sfits = told.1.1.1.1.0.1 }) in
    let read = rw c.in-Ok.is at c.shortfall_on.ensures in
    record {
      shown = λ own s h.
          ap (lt_z (pos 0)) back
          ∙ deficient_is (feed_sheet_read c.args.sheet.now) c.args.share c.requires c.cut_sheet-cut.ensures c.args.marks.now read own s h;
      none = λ e.
          deficient_none (feed_sheet_read c.args.sheet.now) c.args.share c.requires c.cut_sheet-cut.ensures c.args.marks.now read
          (sym (ap (lt_z (pos 0)) back) ∙ e);
    }

pub returns-in-Err : goal.returns-in-Err
returns-in-Err c =
    let read = rw c.in-Err.is at c.shortfall_on.ensures in
    record {
      shown = deficient_is (feed_sheet_read c.args.sheet.now) c.args.share c.requires c.cut_sheet-cut.ensures c.args.marks.now read;
      none = λ e. absurd (false≢true e);
    }
