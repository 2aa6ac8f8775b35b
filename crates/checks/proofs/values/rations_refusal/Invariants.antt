-- `checks::values::rations_refusal` meets its contract. What is refused of the rations from one on, after the tank and
-- the last slot before it, is what is refused of all. Assumes nothing.
use mathlib.Core.Path.{◌≡◌}
use Prim.Native.Nat.{◌+◌, ◌*◌}
use lib.ListN.{take}
use Rattle.common.specs.Lists.{part}
use Rattle.line.specs.Layout.{fields}
use Rattle.checks.specs.Sheet.{jobs_of}
use Rattle.checks.specs.Checks.{first_refusal, jobs_faults}
use Rattle.checks.proofs.values.rations_refusal.Given as goal

abbrev pub invariant-loop-i : goal.invariant-loop-i
invariant-loop-i l = first_refusal (jobs_faults l.slots 2 0 0 (jobs_of (take (fields * l.n) l.numbers))) ≡ first_refusal (jobs_faults l.slots (l.i + 2) l.before.tank l.before.deadline (jobs_of (part (fields * l.i) (fields * l.n) l.numbers)))
