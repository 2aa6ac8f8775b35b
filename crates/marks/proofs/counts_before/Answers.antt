-- `marks::counts_before` meets its contract: after t slots the places 0 to t have their counts. Assumes nothing.
use mathlib.Core.Path.{◌≡◌}
use Prim.Native.Nat.{suc, ◌+◌, ◌≤◌}
use Rattle.checks.specs.Limits.{max_slots}
use Rattle.common.specs.FillLaws.{filled_next}
use Rattle.marks.specs.Counts.{marked_to}
use Rattle.marks.proofs.MarkSteps.{count_none, count_hit, count_miss, counts_begin, counts_end}
use native.Mathlib.Omega.{arith}
use Rattle.marks.proofs.counts_before.Goals as goal
use Rattle.marks.proofs.counts_before.Goals.{then-mark-eq1, else-mark-eq1}

pub loop-t-init : goal.loop-t-init
loop-t-init c = (omega arith, count_none c.args.marks.now, counts_begin c.args.marks.now)

pub loop-t-preserved : goal.loop-t-preserved
loop-t-preserved c = let marks = c.args.marks.now in
    let t = c.loop-t.t in
    let e : c.if-mark-eq1.n ≡ marked_to marks (t + 1) =
    elim c.if-mark-eq1.branch [
      | then-mark-eq1 w ↦ omega (arith, count_hit marks t (omega arith) w.if-mark-eq1.true)
      | else-mark-eq1 w ↦ omega (arith, count_miss marks t (omega arith) w.if-mark-eq1.false)
    ] in
    let l : c.if-mark-eq1.n ≤ t + 1 = elim c.if-mark-eq1.branch [ then-mark-eq1 w ↦ omega arith | else-mark-eq1 w ↦ omega arith ] in
    (l, e, filled_next (suc max_slots) (marked_to marks) (t + 1) _ c.loop-t.invariant.2 (omega arith) _ e)

pub returns : goal.returns
returns c = counts_end c.args.marks.now c.requires c.loop-t.t (omega arith) _ c.loop-t.invariant.2
