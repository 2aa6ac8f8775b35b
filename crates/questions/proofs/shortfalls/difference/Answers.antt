-- `questions::shortfalls::difference` meets its contract. Assumes nothing.
use Rattle.questions.specs.SignedSteps.{difference_fits, difference_is}
use native.Mathlib.Omega.{arith}
use Rattle.questions.proofs.shortfalls.difference.Goals as goal

pub overflow_sub-result : goal.overflow_sub-result
overflow_sub-result c = difference_fits c.args.a c.args.b (omega arith) (omega arith)

pub returns : goal.returns
returns c = difference_is c.args.a c.args.b (omega arith) (omega arith)
