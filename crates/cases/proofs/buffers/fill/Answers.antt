-- `cases::buffers::fill` meets its contract. Assumes nothing.
use Rattle.std.proofs.Common.{arith, rules}
use Rattle.cases.proofs.FillLaws.{fill_step}
use Rattle.cases.proofs.buffers.fill.Goals as goal

pub loop-element-preserved : goal.loop-element-preserved
loop-element-preserved g c =
    let e = g.E.Element in
    let l = c.loop-element in (
      search rules,
      search rules,
      fill_step e.next_element e.FIRST l.value _ l.element-items l.element-index (omega (arith, l.invariant.0, c.loop-element-test.true)) c.next-value.ensures l.invariant.2,
    )
