-- `placing::windows::mark_windows` meets its contract: after j rations the words have their windows. Assumes nothing.
use Prim.Native.Nat.{◌≤◌}
use Rattle.checks.specs.Limits.{max_slots}
use Rattle.placing.specs.WindowSteps.{WindowsTo}
use Rattle.placing.proofs.windows.mark_windows.Given as goal

abbrev pub invariant-loop-j : goal.invariant-loop-j
invariant-loop-j l = (l.j ≤ l.n) × WindowsTo max_slots l.numbers l.j l.windows
