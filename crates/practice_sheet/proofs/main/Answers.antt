-- `practice_sheet::main` meets its contract: it writes no more bytes than the sheet made has. Assumes nothing.
use Rattle.program.specs.MadeSheetLaws.{made_within}
use Rattle.practice_sheet.proofs.main.Goals as goal

pub slice_bounds-write_all-end : goal.slice_bounds-write_all-end
slice_bounds-write_all-end c = made_within _ _ c.make_sheet-output.ensures
