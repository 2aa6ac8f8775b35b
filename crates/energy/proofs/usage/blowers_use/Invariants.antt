-- `energy::usage::blowers_use` meets its contract. What some blowers use, with what the others use, is all. Assumes nothing.
use Rattle.energy.specs.UsageSteps.{UsedBefore}
use Rattle.energy.proofs.usage.blowers_use.Given as goal

abbrev pub invariant-loop-blower : goal.invariant-loop-blower
invariant-loop-blower l = UsedBefore l.blowers l.day.wake l.day.counts.now l.blower l.on l.starts
