-- `questions::question::are_ordered` meets its contract: what the slots from one on say of all, they say of all slots.
-- Assumes nothing.
use mathlib.Core.Path.{◌≡◌}
use lib.Dec.{leb}
use lib.ListN.{length, take, drop}
use Rattle.common.specs.Lists.{every, zip_with}
use Rattle.schedules.specs.Schedules.{at_most}
use Rattle.questions.proofs.question.are_ordered.Given as goal

abbrev pub invariant-loop-t : goal.invariant-loop-t
invariant-loop-t l = at_most l.lows (take (length l.lows) l.high) ≡ every (drop l.t (zip_with leb l.lows (take (length l.lows) l.high)))
