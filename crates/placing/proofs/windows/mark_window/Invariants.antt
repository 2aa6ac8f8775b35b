-- `placing::windows::mark_window` meets its contract: after t slots those of the window before slot t have the bit.
-- Assumes nothing.
use Prim.Native.Nat.{◌^◌}
use Rattle.placing.specs.WindowSteps.{AddedTo}
use Rattle.placing.proofs.windows.mark_window.Given as goal

abbrev pub invariant-loop-t : goal.invariant-loop-t
invariant-loop-t l = AddedTo (2 ^ l.j) l.release l.deadline l.t l.initial.windows l.windows
