-- `bits::drop_bit` meets its contract. Assumes nothing.
use native.Mathlib.Omega.{arith}
use Rattle.common.specs.Bits.{bit_le, one_shl}
use Rattle.bits.proofs.drop_bit.Goals as goal

pub overflow_sub-result : goal.overflow_sub-result
overflow_sub-result c = omega (arith, bit_le c.args.w c.args.j c.requires.1, one_shl c.args.j c.requires.0)
