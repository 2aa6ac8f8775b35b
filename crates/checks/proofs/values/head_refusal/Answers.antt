-- `checks::values::head_refusal` meets its contract. Assumes nothing.
use Rattle.std.proofs.Common.{arith}
use Rattle.std.proofs.lemmas.Grind.{common_steps}
use Rattle.checks.specs.Checks.{first_refusal, outside, head_faults}
use Rattle.checks.proofs.values.head_refusal.Goals as goal

pub returns-then-not-contains : goal.returns-then-not-contains
unfolding first_refusal outside head_faults
returns-then-not-contains c = grind (arith, common_steps)

pub returns-then-not-contains-2 : goal.returns-then-not-contains-2
unfolding first_refusal outside head_faults
returns-then-not-contains-2 c = grind (arith, common_steps)

pub returns-then-wake-gt-MAX_WAKE : goal.returns-then-wake-gt-MAX_WAKE
unfolding first_refusal outside head_faults
returns-then-wake-gt-MAX_WAKE c = grind (arith, common_steps)

pub returns-then-rations-gt-MAX_RATIONS : goal.returns-then-rations-gt-MAX_RATIONS
unfolding first_refusal outside head_faults
returns-then-rations-gt-MAX_RATIONS c = grind (arith, common_steps)

pub returns : goal.returns
unfolding first_refusal outside head_faults
returns c = grind (arith, common_steps)
