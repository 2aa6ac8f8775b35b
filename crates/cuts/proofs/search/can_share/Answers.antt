-- `cuts::search::can_share` meets its contract. Assumes nothing.
use Rattle.sheet.proofs.FeedSheetLaws.{feed_sheet_read}
use Rattle.placing.specs.RationLaws.{rations_longest}
use Rattle.cuts.proofs.SearchSteps.{cut_rations, can_begin_share, answered, ask_again}
use Rattle.cuts.proofs.search.can_share.Goals as goal

pub volumes_of-volumes-requires : goal.volumes_of-volumes-requires
volumes_of-volumes-requires c = rations_longest (cut_rations (feed_sheet_read c.args.sheet.now) c.requires.0 c.args.share c.requires.1 c.cut_sheet-cut.ensures)

pub begin_again-can-requires : goal.begin_again-can-requires
begin_again-can-requires c = can_begin_share (feed_sheet_read c.args.sheet.now) c.requires.0 c.args.share c.requires.1 c.cut_sheet-cut.ensures c.volumes_of-volumes.ensures

pub returns : goal.returns
returns c = record { share_answered = answered (feed_sheet_read c.args.sheet.now) c.requires.0 c.args.share c.requires.1 c.cut_sheet-cut.ensures c.volumes_of-volumes.ensures c.begin_again-can.ensures.begun; can_ask_shares = rw c.begin_again-can.ensures.highs (ask_again (feed_sheet_read c.args.sheet.now) c.requires.0 c.args.share c.requires.1 c.cut_sheet-cut.ensures c.volumes_of-volumes.ensures c.begin_again-can.ensures.begun) }
