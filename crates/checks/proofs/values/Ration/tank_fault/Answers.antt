-- `checks::values::Ration::tank_fault` meets its contract. Assumes nothing.
use Rattle.std.proofs.Common.{arith}
use Rattle.std.proofs.lemmas.Grind.{common_steps}
use Rattle.checks.specs.Checks.{outside, tank_fault}
use Rattle.checks.proofs.values.Ration.tank_fault.Goals as goal

pub returns-then-not-contains : goal.returns-then-not-contains
unfolding outside tank_fault
returns-then-not-contains c = grind (arith, common_steps)

pub returns-else-not-contains : goal.returns-else-not-contains
unfolding outside tank_fault
returns-else-not-contains c = grind (arith, common_steps)
