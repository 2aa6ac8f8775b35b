-- `questions::question::is_faulty` meets its contract. Assumes nothing.
use Rattle.std.proofs.Common.{arith}
use Rattle.std.proofs.lemmas.Grind.{common_steps}
use Rattle.questions.specs.Calls.{bounds_fault}
use Rattle.questions.proofs.question.is_faulty.Goals as goal

pub returns-then-lows-slots : goal.returns-then-lows-slots
unfolding bounds_fault
returns-then-lows-slots c = grind (arith, common_steps)

pub returns-else-lows-slots : goal.returns-else-lows-slots
unfolding bounds_fault
returns-else-lows-slots c = grind (arith, common_steps)
