-- `checks::values::Ration::volume_fault` meets its contract. Assumes nothing.
use Rattle.std.proofs.Common.{arith, ne_eqb}
use Rattle.std.proofs.lemmas.Grind.{common_steps}
use Rattle.checks.specs.Checks.{volume_fault}
use Rattle.checks.specs.CheckSteps.{window_length}
use Rattle.checks.proofs.values.Ration.volume_fault.Goals as goal

pub returns-then-self-eq0 : goal.returns-then-self-eq0
unfolding volume_fault
returns-then-self-eq0 c = grind (arith, common_steps)

pub returns-else-self-eq0 : goal.returns-else-self-eq0
unfolding volume_fault
returns-else-self-eq0 c = simp (ne_eqb _ _ c.if-self-eq0.false) (window_length c.args.self.release c.args.self.deadline c.args.self.volume (omega arith))
