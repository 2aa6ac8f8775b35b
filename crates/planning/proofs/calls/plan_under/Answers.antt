-- `planning::calls::plan_under` meets its contract. Assumes nothing.
use Rattle.planning.proofs.calls.plan_under.Goals as goal

pub returns : goal.returns
returns c = λ own s h high k. rw c.from.ensures (c.plan_read.ensures own s h high k)
