-- `halls::calls::plan_hall_if` meets its contract. Assumes nothing.
use Rattle.halls.proofs.CallLaws.{done_there, done_none}
use Rattle.halls.proofs.calls.plan_hall_if.Goals as goal

pub plan_hall-requires : goal.plan_hall-requires
plan_hall-requires c = c.requires

pub returns-then-there : goal.returns-then-there
returns-then-there c = done_there c.if-there.true c.plan_hall.ensures

pub returns : goal.returns
returns c = done_none c.if-there.false c.no_answer.ensures
