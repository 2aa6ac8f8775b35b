-- `bits::has_bit` meets its contract: it is the definition of a bit. Assumes nothing.
use mathlib.Core.Path.{refl}
use Rattle.common.specs.Bits.{bit}
use Rattle.bits.proofs.has_bit.Goals as goal

pub returns : goal.returns
unfolding bit
returns c = refl
