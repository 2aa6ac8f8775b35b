-- `energy::usage::blowers_use` meets its contract. What some blowers use, with what the others use, is all. Assumes nothing.
use Rattle.std.proofs.Common.{arith}
use Rattle.energy.specs.UsageSteps.{used_before_begin, used_before_more, used_before_few, used_before_end}
use Rattle.energy.proofs.usage.blowers_use.Goals as goal

pub loop-blower-init : goal.loop-blower-init
loop-blower-init c = used_before_begin

pub overflow_add-on : goal.overflow_add-on
overflow_add-on c =
    omega (
      arith,
      (used_before_few (used_before_more c.loop-blower.invariant c.loop-blower-test.true c.blower_use-used.ensures) c.requires c.args.day.now.in_day).0,
    )

pub overflow_add-starts : goal.overflow_add-starts
overflow_add-starts c =
    omega (
      arith,
      (used_before_few (used_before_more c.loop-blower.invariant c.loop-blower-test.true c.blower_use-used.ensures) c.requires c.args.day.now.in_day).1,
    )

pub loop-blower-preserved : goal.loop-blower-preserved
loop-blower-preserved c = used_before_more c.loop-blower.invariant c.loop-blower-test.true c.blower_use-used.ensures

pub returns : goal.returns
returns c =
    let all = used_before_end c.loop-blower.invariant c.loop-blower-test.false in
    record { on = all.0; starts = all.1 }

pub returns-2 : goal.returns-2
returns-2 c =
    let all = used_before_end (used_before_more c.loop-blower.invariant c.loop-blower-test.true c.blower_use-used.ensures) (omega arith) in
    record { on = all.0; starts = all.1 }
