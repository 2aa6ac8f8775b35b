-- `cuts::search::greatest_share` meets its contract: the greatest share lies between the two ends, and while more than
-- one share is left, so is a question. Assumes nothing.
use Prim.Native.Nat.{◌+◌, ◌^◌, ◌≤◌}
use Rattle.sheet.specs.FeedSheets.{sheet_reading}
use Rattle.cuts.specs.Clauses.{CanAskShares, ReadBetween}
use Rattle.cuts.proofs.search.greatest_share.Given as goal

abbrev pub invariant-loop-left : goal.invariant-loop-left
invariant-loop-left l = CanAskShares (sheet_reading l.sheet) l.words.high l.placed l.words.fed l.words.rest
    × ReadBetween (sheet_reading l.sheet) l.ends.low l.ends.high × (l.ends.high ≤ l.ends.low + 2 ^ l.left)
