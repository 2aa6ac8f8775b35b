-- What a placing of n jobs in d slots is, and the numbers of a set Q of slots, all as functions. Definitions only. Assumes nothing.
-- `free j t`: slot t is in the window of job j. `v j`: the volume of job j. `S j t`: job j is processed in slot t.
use Rattle.std.specs.Prelude.{ℕ, ◌-◌, ◌<◌, min, ◌≡◌, Bool, true, false, not, ◌&&◌}
use Rattle.theory.specs.Sums.{sum}
use Rattle.theory.specs.SumsOver.{one, sum_on, compl}

-- One row ---------------------------------------------------------------------

-- how many slots below d the row s has
unfoldable pub size : ℕ → (ℕ → Bool) → ℕ
size d s = sum d (λ t. one (s t))

-- how many of them are in Q, and how many are not
unfoldable pub inside : ℕ → (ℕ → Bool) → (ℕ → Bool) → ℕ
inside d s Q = sum_on d Q (λ t. one (s t))

unfoldable pub outside : ℕ → (ℕ → Bool) → (ℕ → Bool) → ℕ
outside d s Q = sum_on d (compl Q) (λ t. one (s t))

-- each slot of s is one of f
abbrev pub Within : ℕ → (ℕ → Bool) → (ℕ → Bool) → Type 0
Within d s f = (t : ℕ) → t < d → s t ≡ true → f t ≡ true

-- a row that has a slot of Q has every free slot outside of Q
abbrev pub Full : ℕ → (ℕ → Bool) → (ℕ → Bool) → (ℕ → Bool) → Type 0
Full d s f Q = (t u : ℕ) → t < d → u < d → Q t ≡ true → s t ≡ true → f u ≡ true → Q u ≡ false → s u ≡ true

-- All rows --------------------------------------------------------------------

-- S gives job j exactly v j slots, all of them free
pub record Placing (n d : ℕ) (free : ℕ → ℕ → Bool) (v : ℕ → ℕ) (S : ℕ → ℕ → Bool) : Type 0 where
  pub within : (j : ℕ) → j < n → Within d (S j) (free j)
  pub volume : (j : ℕ) → j < n → size d (S j) ≡ v j

-- the load of slot t: how many of n jobs S processes there
unfoldable pub count : ℕ → (ℕ → ℕ → Bool) → ℕ → ℕ
count n S t = sum n (λ j. one (S j t))

-- no job can leave R by a move: none that is processed in R has a free slot outside of R to spare
abbrev pub Closed : (n d : ℕ) (free S : ℕ → ℕ → Bool) (R : ℕ → Bool) → Type 0
Closed n d free S R = (j : ℕ) → j < n → Full d (S j) (free j) R

-- forced volume (document 000, definition 4): what of all volumes must lie in Q
unfoldable pub forced : (n d : ℕ) (free : ℕ → ℕ → Bool) (v : ℕ → ℕ) (Q : ℕ → Bool) → ℕ
forced n d free v Q = sum n (λ j. v j - outside d (free j) Q)

-- possible volume (definition 6): what of all volumes can lie in Q
unfoldable pub possible : (n d : ℕ) (free : ℕ → ℕ → Bool) (v : ℕ → ℕ) (Q : ℕ → Bool) → ℕ
possible n d free v Q = sum n (λ j. min (v j) (inside d (free j) Q))

-- The exchange ----------------------------------------------------------------

-- the free slots that S leaves
abbrev pub opposite : (free S : ℕ → ℕ → Bool) → ℕ → ℕ → Bool
opposite free S j t = free j t && not (S j t)

-- how many they are
abbrev pub rest : ℕ → (ℕ → ℕ → Bool) → (ℕ → ℕ) → ℕ → ℕ
rest d free v j = size d (free j) - v j
