-- `questions::question::bounds_of` meets its contract. Assumes nothing.
use Rattle.questions.proofs.question.bounds_of.Goals as goal

pub returns : goal.returns
returns c = λ own s h. rw c.from.ensures (c.is_possible.ensures own s h)
