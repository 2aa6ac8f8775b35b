-- `questions::shortfalls::shortfall_of` meets its contract. Assumes nothing.
use Rattle.questions.proofs.shortfalls.shortfall_of.Goals as goal

pub returns : goal.returns
returns c = λ own s h. rw c.from.ensures (c.read_shortfall.ensures own s h)
