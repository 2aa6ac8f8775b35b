-- `questions::question::cut` meets its contract: after t slots it has their bounds, cut. Assumes nothing.
use Rattle.checks.specs.Limits.{max_slots}
use Rattle.common.specs.FillLaws.{FilledTo}
use Rattle.questions.specs.BoundsSteps.{cut_at}
use Rattle.questions.proofs.question.cut.Given as goal

abbrev pub invariant-loop-t : goal.invariant-loop-t
invariant-loop-t l = FilledTo max_slots (cut_at l.blowers l.bounds) l.t l.cuts
