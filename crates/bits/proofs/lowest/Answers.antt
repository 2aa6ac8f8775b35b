-- `bits::lowest` meets its contract: `lowest_bit` at 64 bits. Assumes nothing.
use mathlib.Core.Path.{refl}
use Rattle.common.specs.Bits.{lowest_bit}
use Rattle.bits.proofs.lowest.Goals as goal

pub returns : goal.returns
returns c = let l = lowest_bit 64 c.args.w c.ranges.w.fits c.requires in
    record { least = refl; below = l.0; one = l.1 }
