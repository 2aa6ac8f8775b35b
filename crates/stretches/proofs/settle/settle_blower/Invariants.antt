-- `stretches::settle::settle_blower` meets its contract. What is left to settle after a slot is what was left before it. Assumes nothing.
use Prim.Native.Nat.{◌-◌, ◌≤◌}
use Rattle.stretches.specs.Settling.{SomeDay, SamePast, Passing}
use Rattle.stretches.proofs.settle.settle_blower.Given as goal

abbrev pub invariant-loop-t : goal.invariant-loop-t
invariant-loop-t l = (l.t ≤ l.slots) × (1 ≤ l.k) × SomeDay l.slots l.initial.words × Passing l.slots l.k l.is_busy l.t l.initial.words l.words × SamePast l.slots l.initial.words.high l.words.high

abbrev pub decreases-loop-t : goal.decreases-loop-t
decreases-loop-t l = l.slots - l.t
