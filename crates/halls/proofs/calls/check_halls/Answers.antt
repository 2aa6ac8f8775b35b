-- `halls::calls::check_halls` meets its contract. Assumes nothing.
use Rattle.std.proofs.Common.{arith}
use Rattle.std.proofs.lemmas.Grind.{common_steps}
use Rattle.checks.specs.Checks.{first_refusal, outside}
use Rattle.halls.specs.Halls.{halls_faults, halls_refusal}
use Rattle.halls.proofs.calls.check_halls.Goals as goal

pub returns-then-not-contains : goal.returns-then-not-contains
unfolding first_refusal outside halls_faults halls_refusal
returns-then-not-contains c = grind (arith, common_steps)

pub returns : goal.returns
unfolding first_refusal outside halls_faults halls_refusal
returns c = grind (arith, common_steps)
