-- `placing::causes::word_of` meets its contract. Assumes nothing.
use Rattle.placing.specs.CauseSteps.{MarksIn}
use Rattle.placing.proofs.causes.word_of.Given as goal

abbrev pub invariant-loop-j : goal.invariant-loop-j
invariant-loop-j l = MarksIn l.word l.marks l.j
