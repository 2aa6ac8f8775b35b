-- `checks::values::Ration::meal_fault` meets its contract. Assumes nothing.
use Rattle.std.proofs.Common.{arith}
use Rattle.std.proofs.lemmas.Grind.{common_steps}
use Rattle.checks.specs.Checks.{meal_fault}
use Rattle.checks.proofs.values.Ration.meal_fault.Goals as goal

pub returns-then-self-before : goal.returns-then-self-before
unfolding meal_fault
returns-then-self-before c = grind (arith, common_steps)

pub returns-else-self-before : goal.returns-else-self-before
unfolding meal_fault
returns-else-self-before c = grind (arith, common_steps)
