-- `cases::buffers::digest_after` meets its contract. Assumes nothing.
use Rattle.std.proofs.Common.{arith, ◌∙◌}
use Rattle.cases.proofs.DigestLaws.{digest_step}
use Rattle.cases.proofs.buffers.digest_after.Goals as goal

pub loop-element-preserved : goal.loop-element-preserved
loop-element-preserved g c =
    let l = c.loop-element in
    (omega (arith, c.loop-element-test.true), digest_step g.E.Element.remainder_of l.digest c.remainder.result c.element-item.result c.args.elements.now l.element-index c.loop-element-test.true c.element-item.is c.remainder.ensures.value ∙ l.invariant.1)
