-- One job moved from a slot to another: the placing stays one, and two loads change by one. Assumes nothing.
use Rattle.std.specs.Prelude.{ℕ, ◌+◌, ◌≡◌, ◌≢◌, Bool, true, false, ◌&&◌, cond, eqb}
use Rattle.theory.specs.Placing.{count}

-- S with b for job j in slot t
abbrev pub upd : (ℕ → ℕ → Bool) → ℕ → ℕ → Bool → ℕ → ℕ → Bool
upd S j t b k u = cond (eqb k j && eqb u t) b (S k u)

-- job j goes from slot t to slot u
abbrev pub move : (ℕ → ℕ → Bool) → ℕ → ℕ → ℕ → ℕ → ℕ → Bool
move S j t u = upd (upd S j t false) j u true

-- of all loads, that of z falls by one and that of u rises by one
pub record Shift (n : ℕ) (S T : ℕ → ℕ → Bool) (z u : ℕ) : Type 0 where
  pub from : count n T z + 1 ≡ count n S z
  pub to : count n T u ≡ count n S u + 1
  pub others : (w : ℕ) → w ≢ z → w ≢ u → count n T w ≡ count n S w
