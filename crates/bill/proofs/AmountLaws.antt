-- Rounding to whole cents. Assumes nothing.
use Rattle.std.specs.Prelude.{◌≡◌, ℕ, ◌+◌, ◌/◌, ◌%◌}
use Rattle.std.proofs.Common.{arith}
use Rattle.bill.specs.Bill.{cents_of, amount_of}

-- the cents without the sum: no charge is too large for it
cents_split : (x : ℕ) → x / 10 + (x % 10 + 5) / 10 ≡ cents_of x
unfolding cents_of
cents_split x = omega arith

pub amount_of_split : (x : ℕ) → record { hundreds = (x / 10 + (x % 10 + 5) / 10) / 100; remaining = (x / 10 + (x % 10 + 5) / 10) % 100 } ≡ amount_of x
unfolding amount_of
amount_of_split x = rw (cents_split x)
