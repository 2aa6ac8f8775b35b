-- `planning::calls::list_day` meets its contract. Assumes nothing.
use Rattle.planning.proofs.DayLaws.{plan_can, plan_written, held_can, held_written}
use Rattle.planning.proofs.calls.list_day.Goals as goal

pub put_plan-requires : goal.put_plan-requires
put_plan-requires c = plan_can (rw c.in-Ok.is at c.requires.0.day) _ c.requires.1

pub returns-in-Ok : goal.returns-in-Ok
returns-in-Ok c = λ p h. plan_written (rw c.in-Ok.is at h) c.put_plan.ensures

pub put_held-requires : goal.put_held-requires
put_held-requires c = held_can (rw c.in-Err.is at c.requires.0.day) _ c.requires.1

pub returns-in-Err : goal.returns-in-Err
returns-in-Err c = λ p h. held_written (rw c.in-Err.is at h) c.put_held.ensures
