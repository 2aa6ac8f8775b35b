-- `loads::first::place_again` meets its contract. The loop keeps what `PlacingAgain` says of the rations passed.
-- Assumes nothing.
use Rattle.loads.specs.FirstLaws.{PlacingAgain}
use Rattle.loads.proofs.first.place_again.Given as goal

abbrev pub invariant-loop-j : goal.invariant-loop-j
invariant-loop-j l = PlacingAgain l.new l.initial.fed l.initial.rest l.fed l.rest l.j
