-- `bits::add_bit` meets its contract. Assumes nothing.
use native.Mathlib.Omega.{arith}
use Rattle.common.specs.Bits.{add_fits, one_shl}
use Rattle.bits.proofs.add_bit.Goals as goal

pub overflow_add-result : goal.overflow_add-result
overflow_add-result c = omega (arith, add_fits 64 c.args.w c.args.j c.ranges.w.fits c.requires.0 c.requires.1, one_shl c.args.j c.requires.0)
