-- `bill::tallies::day_charge` meets its contract. The sum is the charge of the blowers passed. Assumes nothing.
use Rattle.std.proofs.Common.{arith}
use Rattle.bill.proofs.TallySteps.{charged_begin, charged_more, charged_few, charged_end}
use Rattle.bill.proofs.tallies.day_charge.Goals as goal

pub loop-blower-init : goal.loop-blower-init
loop-blower-init c = charged_begin

pub blower_charge-sum-requires : goal.blower_charge-sum-requires
blower_charge-sum-requires c = c.requires.wake_most

pub overflow_add-sum : goal.overflow_add-sum
overflow_add-sum c =
    omega (
      arith,
      charged_few (charged_more c.loop-blower.invariant c.loop-blower-test.true c.blower_charge-sum.ensures) c.requires c.args.day.now.in_day,
    )

pub loop-blower-preserved : goal.loop-blower-preserved
loop-blower-preserved c = charged_more c.loop-blower.invariant c.loop-blower-test.true c.blower_charge-sum.ensures

pub returns : goal.returns
returns c = charged_end c.loop-blower.invariant c.loop-blower-test.false

pub returns-2 : goal.returns-2
returns-2 c = charged_end (charged_more c.loop-blower.invariant c.loop-blower-test.true c.blower_charge-sum.ensures) (omega arith)
