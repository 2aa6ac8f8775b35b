-- `planning::calls::plan_number_of` meets its contract. Assumes nothing.
use Rattle.planning.proofs.calls.plan_number_of.Goals as goal

pub returns : goal.returns
returns c = λ own s h. rw c.from.ensures (c.plan_numbered.ensures own s h)
