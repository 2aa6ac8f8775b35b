-- `endings::settling::step` meets its contract. Assumes nothing.
use Rattle.endings.specs.StepLaws.{step_ends}
use Rattle.endings.proofs.settling.step.Goals as goal

pub returns : goal.returns
returns c = step_ends (rw c.in-Err.is at c.keep_or_cause.ensures) c.keep.ensures
