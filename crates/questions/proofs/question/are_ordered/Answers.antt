-- `questions::question::are_ordered` meets its contract. Assumes nothing.
use mathlib.Core.Path.{refl, sym, ◌∙◌}
use native.Mathlib.Omega.{arith}
use Rattle.schedules.specs.Schedules.{at_most}
use Rattle.questions.specs.BoundsSteps.{order_hit, order_miss, order_end}
use Rattle.questions.proofs.question.are_ordered.Goals as goal

pub loop-t-init : goal.loop-t-init
unfolding at_most
loop-t-init c = refl

pub returns-then-high-t : goal.returns-then-high-t
returns-then-high-t c = order_hit c.args.lows.now c.args.high.now (omega arith) c.loop-t.t (omega arith) c.if-high-t.true ∙ sym c.loop-t.invariant

pub loop-t-preserved : goal.loop-t-preserved
loop-t-preserved c = c.loop-t.invariant ∙ order_miss c.args.lows.now c.args.high.now (omega arith) c.loop-t.t (omega arith) c.if-high-t.false

pub returns : goal.returns
returns c = order_end c.args.lows.now c.args.high.now (omega arith) c.loop-t.t (omega arith) ∙ sym c.loop-t.invariant
