-- `checks::values::Ration::window_fault` meets its contract. Assumes nothing.
use Rattle.std.proofs.Common.{arith}
use Rattle.std.proofs.lemmas.Grind.{common_steps}
use Rattle.checks.specs.Checks.{window_fault}
use Rattle.checks.proofs.values.Ration.window_fault.Goals as goal

pub returns-then-self : goal.returns-then-self
unfolding window_fault
returns-then-self c = grind (arith, common_steps)

pub returns-else-self : goal.returns-else-self
unfolding window_fault
returns-else-self c = grind (arith, common_steps)
