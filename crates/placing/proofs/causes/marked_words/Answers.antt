-- `placing::causes::marked_words` meets its contract. Assumes nothing.
use Rattle.placing.specs.CauseSteps.{front_marks, back_marks}
use Rattle.placing.proofs.causes.marked_words.Goals as goal

pub returns : goal.returns
returns c = (front_marks c.requires c.word_of.ensures, back_marks c.requires c.word_of-2.ensures)
