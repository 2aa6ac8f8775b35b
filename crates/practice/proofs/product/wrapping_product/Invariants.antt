-- `practice::product::wrapping_product` meets its contract: what is summed and what is left make up the product.
-- Assumes nothing.
use Rattle.practice.proofs.ProductLaws.{Product}
use Rattle.practice.proofs.product.wrapping_product.Given as goal

abbrev pub invariant-loop-left : goal.invariant-loop-left
invariant-loop-left l = Product l.x l.y l.sum l.left l.doubled

abbrev pub decreases-loop-left : goal.decreases-loop-left
decreases-loop-left l = l.left
