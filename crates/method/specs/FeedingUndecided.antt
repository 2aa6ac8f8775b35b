-- Decided cells as functions: the placings that have the choices of S in the cells D are S there joined with the placings of the other cells
-- that have the volumes and loads of S there; and one cell more. Assumes nothing.
use Rattle.std.specs.Prelude.{◌≡◌, Bool, true, cond, ℕ, ◌-◌, ◌<◌, eqb}
use Rattle.theory.specs.SumsOver.{one}
use Rattle.method.specs.Feedings.{Cells}

-- the same choices in the cells of D
abbrev pub Same : (n d : ℕ) → Cells → Cells → Cells → Type 0
Same n d D S P = (i u : ℕ) → i < n → u < d → D i u ≡ true → S i u ≡ P i u

-- a number less where the choice b is to feed
abbrev pub less : (ℕ → ℕ) → ℕ → Bool → ℕ → ℕ
less x j b i = cond (eqb i j) (x j - one b) (x i)
