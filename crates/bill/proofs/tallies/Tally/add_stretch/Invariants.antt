-- `bill::tallies::Tally::add_stretch` meets its contract. What is taken, with the slots left, is the whole stretch. Assumes nothing.
use Rattle.energy.specs.Listed.{listing_of}
use Rattle.bill.specs.Numbers.{numbers_of}
use Rattle.bill.proofs.TallySteps.{SlotsFrom}
use Rattle.bill.proofs.tallies.Tally.add_stretch.Given as goal

abbrev pub invariant-loop-slot : goal.invariant-loop-slot
invariant-loop-slot l = SlotsFrom l.wake (listing_of l.stretch) (numbers_of l.initial.self) l.slot (numbers_of l.self)
