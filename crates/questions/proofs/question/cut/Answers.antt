-- `questions::question::cut` meets its contract. Assumes nothing.
use native.Mathlib.Omega.{arith}
use Rattle.checks.specs.Limits.{max_slots}
use Rattle.common.specs.FillLaws.{filled_begin, filled_next}
use Rattle.questions.specs.BoundsSteps.{cut_at, cut_end}
use Rattle.questions.proofs.question.cut.Goals as goal

pub loop-t-init : goal.loop-t-init
loop-t-init c = filled_begin max_slots (cut_at c.args.blowers c.args.bounds.now)

pub loop-t-preserved : goal.loop-t-preserved
loop-t-preserved c = filled_next max_slots (cut_at c.args.blowers c.args.bounds.now) _ _ c.loop-t.invariant (omega arith) _ c.min.ensures

pub returns : goal.returns
returns c = cut_end c.args.blowers c.args.bounds.now (omega arith) _ (omega arith) _ c.loop-t.invariant
