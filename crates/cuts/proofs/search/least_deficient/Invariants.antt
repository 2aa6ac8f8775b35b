-- `cuts::search::least_deficient` meets its contract. From the upper of the two ends on no share has a placing. Assumes
-- nothing.
use Prim.Native.Nat.{◌-◌, ◌≤◌, ◌<◌}
use Rattle.sheet.specs.FeedSheets.{sheet_reading}
use Rattle.cuts.specs.Clauses.{ReadNone}
use Rattle.cuts.proofs.search.least_deficient.Given as goal

abbrev pub invariant-loop-left : goal.invariant-loop-left
invariant-loop-left l = ReadNone (sheet_reading l.sheet) l.left.high × (l.fn.ends.low ≤ l.left.low) × (l.left.low < l.left.high) × (l.left.high ≤ l.fn.ends.high)

abbrev pub decreases-loop-left : goal.decreases-loop-left
decreases-loop-left l = l.left.high - l.left.low
