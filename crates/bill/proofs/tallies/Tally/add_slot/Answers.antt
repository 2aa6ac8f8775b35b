-- `bill::tallies::Tally::add_slot` meets its contract. Assumes nothing.
use Rattle.std.proofs.Common.{arith}
use Rattle.bill.specs.Tally.{with_slot}
use Rattle.bill.proofs.tallies.Tally.add_slot.Goals as goal

pub overflow_add-self : goal.overflow_add-self
unfolding with_slot
overflow_add-self c = omega (arith, c.requires.fits, c.slot_charge.ensures)

pub returns : goal.returns
unfolding with_slot
returns c = rw c.slot_charge.ensures
