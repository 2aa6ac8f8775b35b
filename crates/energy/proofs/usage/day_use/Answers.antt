-- `energy::usage::day_use` meets its contract. Assumes nothing.
use Rattle.std.specs.Prelude.{◌≤◌, ◌*◌}
use Rattle.std.proofs.Common.{arith}
use Rattle.checks.specs.Limits.{max_wake}
use Rattle.energy.specs.Energy.{energy}
use Rattle.energy.specs.Usage.{day_use}
use Rattle.energy.specs.UsageSteps.{energy_few}
use Rattle.energy.proofs.usage.day_use.Goals as goal
use Rattle.energy.proofs.usage.day_use.Goals.{After-blowers_use-used}

-- on slots, starts and energy are few
few : (c : After-blowers_use-used)
    → (c.blowers_use-used.result.on ≤ 768) × (c.blowers_use-used.result.starts ≤ 384) × (c.args.day.now.wake * c.blowers_use-used.result.starts ≤ max_wake * 384)
few c =
    rw (c.blowers_use-used.ensures.on, c.blowers_use-used.ensures.starts)
    (energy_few _ _ c.args.day.now.counts.now c.requires c.args.day.now.in_day)

pub overflow_mul-result : goal.overflow_mul-result
overflow_mul-result c = omega (arith, few (goal.at.overflow_mul-result c).After-blowers_use-used)

pub overflow_add-result : goal.overflow_add-result
overflow_add-result c = omega (arith, few (goal.at.overflow_add-result c).After-blowers_use-used)

pub overflow_cast-result-2 : goal.overflow_cast-result-2
overflow_cast-result-2 c = omega (arith, few (goal.at.overflow_cast-result-2 c).After-blowers_use-used)

pub overflow_cast-result-3 : goal.overflow_cast-result-3
overflow_cast-result-3 c = omega (arith, few (goal.at.overflow_cast-result-3 c).After-blowers_use-used)

pub returns : goal.returns
unfolding day_use energy
returns c = rw (c.blowers_use-used.ensures.on, c.blowers_use-used.ensures.starts)
