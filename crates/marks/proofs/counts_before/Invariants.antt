-- `marks::counts_before` meets its contract: after t slots the places 0 to t have their counts. Assumes nothing.
use mathlib.Core.Path.{◌≡◌}
use Prim.Native.Nat.{suc, ◌+◌, ◌≤◌}
use Rattle.checks.specs.Limits.{max_slots}
use Rattle.common.specs.FillLaws.{FilledTo}
use Rattle.marks.specs.Counts.{marked_to}
use Rattle.marks.proofs.counts_before.Given as goal

abbrev pub invariant-loop-t : goal.invariant-loop-t
invariant-loop-t l = (l.n ≤ l.t) × (l.n ≡ marked_to l.marks l.t) × FilledTo (suc max_slots) (marked_to l.marks) (l.t + 1) l.before
