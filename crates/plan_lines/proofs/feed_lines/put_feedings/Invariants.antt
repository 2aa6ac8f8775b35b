-- `plan_lines::feed_lines::put_feedings` meets its contract. The lines put, with those of the slots that are left, are
-- all. Assumes nothing.
use Rattle.std.proofs.Common.{length}
use Rattle.plan_lines.specs.FeedSteps.{FeedingsPut}
use Rattle.plan_lines.proofs.feed_lines.put_feedings.Given as goal

abbrev pub invariant-loop-t : goal.invariant-loop-t
invariant-loop-t l = FeedingsPut (length l.fed) l.numbers l.fed l.parts l.t l.at l.initial.out l.out l.n
