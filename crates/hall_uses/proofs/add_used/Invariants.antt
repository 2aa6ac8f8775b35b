-- `hall_uses::add_used` meets its contract. Assumes nothing.
use Prim.Native.Nat.{◌+◌, ◌≤◌}
use lib.ListN.{get_or}
use Rattle.checks.specs.Limits.{max_slots}
use Rattle.common.specs.FillLaws.{FilledTo}
use Rattle.hall_uses.proofs.add_used.Given as goal

abbrev pub invariant-loop-t : goal.invariant-loop-t
invariant-loop-t l = (l.t ≤ max_slots) × FilledTo max_slots (λ k. get_or l.used k 0 + get_or l.counts k 0) l.t l.sums
