-- `bill::tallies::blower_charge` meets its contract. What is in the tally before a stretch, with what is left, is all. Assumes nothing.
use Rattle.std.proofs.Common.{ap, ◌∙◌}
use Rattle.energy.specs.Left.{left}
use Rattle.bill.proofs.TallySteps.{tallied_begin, tallied_can, tallied_more, tallied_end}
use Rattle.bill.proofs.tallies.blower_charge.Goals as goal

pub loop-stretch-init : goal.loop-stretch-init
loop-stretch-init c =
    (tt, tt, tallied_begin (ap left c.into_iter-stretch-iterator.ensures.into_iter_gives ∙ c.stretches-stretch-items.ensures))

pub add_stretch-requires : goal.add_stretch-requires
add_stretch-requires c =
    tallied_can c.loop-stretch.invariant.2 c.in-Some.ensures.steps c.in-Some.stretch.of_a_day.1 c.requires c.args.day.now.in_day

pub loop-stretch-preserved : goal.loop-stretch-preserved
loop-stretch-preserved c =
    (tt, tt, tallied_more c.loop-stretch.invariant.2 c.in-Some.ensures.steps c.in-Some.stretch.of_a_day.1 c.add_stretch.ensures)

pub returns : goal.returns
returns c = tallied_end c.loop-stretch.invariant.2 c.in-None.ensures.steps.0
