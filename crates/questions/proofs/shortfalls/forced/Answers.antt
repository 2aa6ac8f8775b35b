-- `questions::shortfalls::forced` meets its contract. Assumes nothing.
use mathlib.Core.Path.{sym, ◌∙◌}
use Prim.Native.Nat.{◌+◌}
use native.Mathlib.Omega.{arith}
use Rattle.theory.specs.Sums as S
use Rattle.questions.specs.ShortfallParts.{forced_at}
use Rattle.questions.specs.ShortfallSteps.{forced_fits, forced_next, forced_end}
use Rattle.questions.proofs.shortfalls.forced.Goals as goal

pub loop-j-init : goal.loop-j-init
loop-j-init c = sym (S.sum_none (forced_at c.args.before.now c.args.numbers.now))

pub forced_of-sum-requires : goal.forced_of-sum-requires
forced_of-sum-requires c = c.requires.windows c.loop-j.j (omega arith)

pub overflow_add-sum : goal.overflow_add-sum
overflow_add-sum c = omega (arith, forced_next (forced_at c.args.before.now c.args.numbers.now) c.loop-j.j _ _ c.loop-j.invariant c.forced_of-sum.ensures, forced_fits c.args.before.now _ _ c.requires (c.loop-j.j + 1) (omega arith))

pub loop-j-preserved : goal.loop-j-preserved
loop-j-preserved c = forced_next (forced_at c.args.before.now c.args.numbers.now) c.loop-j.j _ _ c.loop-j.invariant c.forced_of-sum.ensures

pub returns : goal.returns
returns c = c.loop-j.invariant ∙ forced_end c.args.before.now _ _ _ (omega arith)
