-- `cuts::cutting::cut_sheet` meets its contract. The rations before the place are cut. Assumes nothing.
use native.Mathlib.Omega.{arith}
use Rattle.sheet.proofs.FeedSheetLaws.{feed_sheet_read}
use Rattle.cuts.proofs.ReadLaws.{cut_accepted}
use Rattle.cuts.proofs.CutSteps.{cutting_begin, cutting_small, cutting_next, cutting_end}
use Rattle.cuts.proofs.cutting.cut_sheet.Goals as goal

pub loop-j-init : goal.loop-j-init
loop-j-init c = (cutting_begin c.args.share (feed_sheet_read c.args.sheet.now))

pub cut_volume-requires : goal.cut_volume-requires
cut_volume-requires c = (c.requires, cutting_small c.args.share (feed_sheet_read c.args.sheet.now) c.loop-j.invariant (omega arith))

pub loop-j-preserved : goal.loop-j-preserved
loop-j-preserved c = (cutting_next c.args.share (feed_sheet_read c.args.sheet.now) c.loop-j.invariant (omega arith) c.cut_volume.ensures)

pub returns : goal.returns
returns c = cutting_end c.args.share (feed_sheet_read c.args.sheet.now) c.loop-j.invariant (omega arith)

pub invariant_of-result : goal.invariant_of-result
invariant_of-result c = record { accepted = cut_accepted c.args.sheet.now c.args.share c.requires (cutting_end c.args.share (feed_sheet_read c.args.sheet.now) c.loop-j.invariant (omega arith)) }
