-- `feedings::candidates::fed_marked` meets its contract. The loop has the rations of the marked slots passed. Assumes nothing.
use Rattle.std.proofs.Common.{arith}
use Rattle.feedings.specs.CellMayLaws.{marking_next, added_marked, added_none}
use Rattle.feedings.proofs.candidates.fed_marked.Goals as goal
use Rattle.feedings.proofs.candidates.fed_marked.Goals.{then-seen-u-ne0, else-seen-u-ne0}

pub loop-u-preserved : goal.loop-u-preserved
loop-u-preserved c = marking_next c.loop-u.invariant (omega (arith, c.loop-u-test.true)) (elim c.if-seen-u-ne0.branch [
  | then-seen-u-ne0 w ↦ rw w.word-is (added_marked _ _ _)
  | else-seen-u-ne0 w ↦ rw w.word-is (added_none _ _ w.if-seen-u-ne0.false)
])
