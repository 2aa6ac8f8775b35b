-- `bill::tallies::blower_charge` meets its contract. What is in the tally before a stretch, with what is left, is all. Assumes nothing.
use Rattle.energy.specs.Left.{left}
use Rattle.bill.specs.Numbers.{numbers_of}
use Rattle.bill.proofs.TallySteps.{Tallied}
use Rattle.bill.proofs.tallies.blower_charge.Given as goal

abbrev pub invariant-loop-stretch : goal.invariant-loop-stretch
invariant-loop-stretch l =
    (goal.iterator-loop-stretch).can_next l.stretch-iterator
    × (goal.iterator-loop-stretch).is_finite l.stretch-iterator
    × Tallied l.day.wake l.day.counts.now l.blower (numbers_of l.tally) (left l.stretch-iterator)
