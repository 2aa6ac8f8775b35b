-- `feedings::choosing::choose` meets its contract. The loop keeps what `InDay` says of the slots passed. Assumes
-- nothing.
use Rattle.std.proofs.Common.{◌≡◌}
use Rattle.feedings.specs.FeedingLoopLaws.{InDay}
use Rattle.feedings.proofs.choosing.choose.Given as goal

abbrev pub invariant-loop-t : goal.invariant-loop-t
invariant-loop-t l =
    InDay l.initial.words.fed l.initial.words.rest l.initial.words.high l.words.fed l.words.rest l.words.high l.chosen l.slots l.rations l.t
    × (l.words.spare ≡ l.initial.words.spare)
