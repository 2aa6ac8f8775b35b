-- The lowest bit of a word. Assumes nothing.
use Rattle.std.specs.Prelude.{◌≡◌, refl, ◌≢◌, ℕ, ◌-◌, ◌^◌, ◌<◌}
use Rattle.std.proofs.Common.{arith, pow_pos}
use Rattle.std.specs.Int.Count.{count_trailing_zeros}
use Rattle.common.specs.Bits.{bit, bit_le}

-- j is the index of the lowest bit of w
pub record Lowest (w j : ℕ) : Type 0 where
  pub least : j ≡ count_trailing_zeros 64 w
  pub below : j < 64
  pub one : bit w j ≡ 1

-- without it the word is less
pub lowest_less : {w j w' : ℕ} → Lowest w j → w' ≡ w - 2 ^ j → w' < w
lowest_less {w} {j} l r = omega (arith, bit_le w j l.one, pow_pos j)

-- a word with a lowest bit is not 0
pub lowest_some : {w j : ℕ} → Lowest w j → w ≢ 0
lowest_some l = omega (arith, lowest_less l refl)
