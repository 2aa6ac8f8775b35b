-- `endings::settling::keep_or_cause` meets its contract. Assumes nothing.
use Rattle.stretches.proofs.SettlingLaws.{slot_ready}
use Rattle.endings.specs.StepLaws.{answered_idle, answered_busy}
use Rattle.endings.proofs.settling.keep_or_cause.Goals as goal

pub busy_or_cause-requires : goal.busy_or_cause-requires
busy_or_cause-requires c = slot_ready c.requires.0

pub returns-then-is_busy : goal.returns-then-is_busy
returns-then-is_busy c = rw c.if-is_busy.true (answered_busy _ c.busy_or_cause.ensures)

pub idle_or_cause-requires : goal.idle_or_cause-requires
idle_or_cause-requires c = (slot_ready c.requires.0, c.requires.1)

pub returns : goal.returns
returns c = rw c.if-is_busy.false (answered_idle _ c.idle_or_cause.ensures)
