-- `practice::product::wrapping_product` meets its contract: what is summed and what is left make up the product.
-- Assumes nothing.
use Rattle.std.proofs.Common.{◌∙◌, arith, inl, inr}
use Rattle.practice.proofs.ProductLaws.{product_begin, product_next, product_end}
use Rattle.practice.proofs.product.wrapping_product.Goals as goal
use Rattle.practice.proofs.product.wrapping_product.Goals.{then-left-eq1, else-left-eq1}

pub loop-left-init : goal.loop-left-init
loop-left-init c = product_begin c.args.x c.args.y

pub loop-left-smaller : goal.loop-left-smaller
loop-left-smaller c = omega (arith, c.loop-left-test.true)

pub loop-left-preserved : goal.loop-left-preserved
loop-left-preserved c = product_next c.args.x c.args.y c.loop-left.sum c.loop-left.left c.loop-left.doubled c.loop-left.invariant _ _ (elim c.if-left-eq1.branch [
  | then-left-eq1 w ↦ inl (w.if-left-eq1.true, w.sum-is ∙ w.wrapping_add_u32-sum.ensures.value)
  | else-left-eq1 w ↦ inr (w.if-left-eq1.false, w.sum-is)
]) c.wrapping_add_u32-doubled.ensures.value

pub returns : goal.returns
returns c = product_end c.args.x c.args.y c.loop-left.sum c.loop-left.left c.loop-left.doubled c.loop-left.invariant c.loop-left-test.false
