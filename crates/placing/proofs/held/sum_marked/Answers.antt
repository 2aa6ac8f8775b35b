-- `placing::held::sum_marked` meets its contract. Assumes nothing.
use Rattle.std.proofs.Common.{arith}
use Rattle.placing.specs.HeldSteps.{marked_none, marked_next}
use Rattle.placing.proofs.held.sum_marked.Goals as goal

pub loop-t-init : goal.loop-t-init
loop-t-init g c = record { small = omega arith; so_far = λ f h. marked_none c.args.seen.now f }

pub loop-t-preserved : goal.loop-t-preserved
loop-t-preserved g c =
    let i = c.loop-t.invariant in
    record {
      small = omega (arith, c.requires.small _ _ c.loop-t-test.true c.number.ensures, c.if_marked-sum.ensures.1, i.small);
      so_far = λ f h.
          marked_next c.args.seen.now f _ c.loop-t.t _ (i.so_far f h)
          (rw (h _ _ c.loop-t-test.true c.number.ensures) at c.if_marked-sum.ensures.0);
    }
