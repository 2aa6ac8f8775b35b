-- `cuts::cutting::cut_sheet` meets its contract. The rations before the place are cut. Assumes nothing.
use Rattle.sheet.specs.FeedSheets.{sheet_reading}
use Rattle.cuts.proofs.CutSteps.{Cutting}
use Rattle.cuts.proofs.cutting.cut_sheet.Given as goal

abbrev pub invariant-loop-j : goal.invariant-loop-j
invariant-loop-j l = Cutting l.share (sheet_reading l.sheet) l.numbers l.j
