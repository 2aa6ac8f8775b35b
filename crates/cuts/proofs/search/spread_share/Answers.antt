-- `cuts::search::spread_share` meets its contract. Assumes nothing.
use Rattle.std.proofs.Common.{refl}
use Rattle.sheet.proofs.FeedSheetLaws.{feed_sheet_read}
use Rattle.placing.specs.RationLaws.{rations_longest}
use Rattle.cuts.specs.Cuts.{max_share}
use Rattle.cuts.proofs.SpreadShareLaws.{spread_placing}
use Rattle.cuts.proofs.SearchSteps.{sheet_rations, few_blowers, share_of}
use native.Mathlib.Omega.{arith}
use Rattle.cuts.proofs.search.spread_share.Goals as goal

pub greatest_density-most-requires : goal.greatest_density-most-requires
greatest_density-most-requires c = rations_longest (sheet_rations (feed_sheet_read c.args.sheet.now))

pub overflow_mul-room : goal.overflow_mul-room
overflow_mul-room c = omega (arith, few_blowers (feed_sheet_read c.args.sheet.now))

pub returns-then-most-room : goal.returns-then-most-room
returns-then-most-room c = (λ own s h. spread_placing h refl c.greatest_density-most.ensures max_share (omega arith) (omega (arith, c.if-most-room.true)), omega arith)

pub returns : goal.returns
returns c = let e = share_of _ c.greatest_density-most.result c.if-most-room.false in (λ own s h. spread_placing h refl c.greatest_density-most.ensures _ e.0 (omega (arith, e.1)), e.0)
