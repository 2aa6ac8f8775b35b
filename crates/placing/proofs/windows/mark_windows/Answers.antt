-- `placing::windows::mark_windows` meets its contract: after j rations the words have their windows. Assumes nothing.
use mathlib.Core.Path.{sym, subst}
use Rattle.checks.specs.Limits.{max_slots}
use Rattle.placing.specs.WindowSteps.{WindowsTo, windows_begin, windows_next, windows_end}
use native.Mathlib.Omega.{arith}
use Rattle.placing.proofs.windows.mark_windows.Goals as goal

pub loop-j-init : goal.loop-j-init
loop-j-init c = (omega arith, subst (WindowsTo max_slots c.args.numbers.now 0) (sym c.requires.1) (windows_begin max_slots c.args.numbers.now))

pub loop-j-preserved : goal.loop-j-preserved
loop-j-preserved c = (omega arith, windows_next _ _ _ c.requires.0 _ (omega arith) _ c.loop-j.invariant.1 _ c.mark_window.ensures)

pub returns : goal.returns
returns c = windows_end _ _ _ c.requires.0 _ (omega arith) _ c.loop-j.invariant.1
