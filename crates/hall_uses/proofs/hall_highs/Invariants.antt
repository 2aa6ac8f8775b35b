-- `hall_uses::hall_highs` meets its contract. Assumes nothing.
use Prim.Native.Nat.{◌≤◌, ◌-◌, min}
use lib.ListN.{get_or}
use Rattle.checks.specs.Limits.{max_slots}
use Rattle.common.specs.FillLaws.{FilledTo}
use Rattle.hall_uses.proofs.hall_highs.Given as goal

abbrev pub invariant-loop-t : goal.invariant-loop-t
invariant-loop-t l = (l.t ≤ l.slots) × (l.slots ≤ max_slots) × FilledTo max_slots (λ k. min l.blowers (l.limit - get_or l.used k 0)) l.t l.highs
