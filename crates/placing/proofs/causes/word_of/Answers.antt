-- `placing::causes::word_of` meets its contract. Assumes nothing.
use Rattle.placing.specs.CauseSteps.{marks_next}
use Rattle.placing.proofs.causes.word_of.Goals as goal

pub loop-j-preserved : goal.loop-j-preserved
loop-j-preserved c = marks_next c.loop-j.invariant c.with_mark-word.ensures
