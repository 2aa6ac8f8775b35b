-- `bill::tallies::day_charge` meets its contract. The sum is the charge of the blowers passed. Assumes nothing.
use Rattle.bill.proofs.TallySteps.{ChargedBefore}
use Rattle.bill.proofs.tallies.day_charge.Given as goal

abbrev pub invariant-loop-blower : goal.invariant-loop-blower
invariant-loop-blower l = ChargedBefore l.blowers l.day.wake l.day.counts.now l.blower l.sum
