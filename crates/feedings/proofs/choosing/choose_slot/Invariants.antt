-- `feedings::choosing::choose_slot` meets its contract. The loop keeps what `InSlot` says of the rations passed.
-- Assumes nothing.
use Rattle.std.proofs.Common.{◌≡◌}
use Rattle.feedings.specs.FeedingLoopLaws.{InSlot}
use Rattle.feedings.proofs.choosing.choose_slot.Given as goal

abbrev pub invariant-loop-j : goal.invariant-loop-j
invariant-loop-j l =
    InSlot l.initial.words.fed l.initial.words.rest l.initial.words.high l.words.fed l.words.rest l.words.high l.t l.rations l.word l.may l.j
    × (l.words.spare ≡ l.initial.words.spare)
