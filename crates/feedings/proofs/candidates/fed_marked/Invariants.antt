-- `feedings::candidates::fed_marked` meets its contract. The loop has the rations of the marked slots passed. Assumes
-- nothing.
use Rattle.feedings.specs.CellMayLaws.{Marking}
use Rattle.feedings.proofs.candidates.fed_marked.Given as goal

abbrev pub invariant-loop-u : goal.invariant-loop-u
invariant-loop-u l = Marking l.word l.fed l.seen l.u
