-- `bill::tallies::Tally::add_stretch` meets its contract. What is taken, with the slots left, is the whole stretch. Assumes nothing.
use Rattle.std.proofs.Common.{arith}
use Rattle.bill.proofs.TallySteps.{slots_begin, slots_can, slots_more, slots_end}
use Rattle.bill.proofs.tallies.Tally.add_stretch.Goals as goal

pub loop-slot-init : goal.loop-slot-init
loop-slot-init c = slots_begin

pub add_slot-requires : goal.add_slot-requires
add_slot-requires c =
    slots_can c.loop-slot.invariant c.requires (omega (arith, c.args.stretch.now.of_a_day, c.loop-slot.auto.slot)) c.loop-slot-test.true
    c.args.stretch.now.of_a_day.2

pub loop-slot-preserved : goal.loop-slot-preserved
loop-slot-preserved c = slots_more c.loop-slot.invariant c.loop-slot-test.true c.add_slot.ensures

pub returns : goal.returns
returns c = slots_end c.loop-slot.invariant c.loop-slot-test.false

pub returns-2 : goal.returns-2
returns-2 c = slots_end (slots_more c.loop-slot.invariant c.loop-slot-test.true c.add_slot.ensures) (omega arith)
