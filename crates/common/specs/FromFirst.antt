-- Numbers from a first one on: the first, and those after it. Assumes nothing.
use Rattle.std.specs.Prelude.{◌≡◌, refl, Bool, true, false, ℕ, suc, ◌≤◌, leb}
use Rattle.std.proofs.Common.{subst, arith, leb-true, leb-false}

-- what holds at f, and at every later number, holds from f on
pub from_first : (P : ℕ → Type 0) (f i : ℕ) → f ≤ i → P f → (suc f ≤ i → P i) → P i
from_first P f i h p q = go (leb (suc f) i) refl
  where
    go : (t : Bool) → leb (suc f) i ≡ t → P i
    go true e = q (leb-true (suc f) i e)
    go false e =
        let l = leb-false (suc f) i e in
        let n : f ≡ i = omega arith in
        subst P n p
