-- What a filled buffer holds, and a digest. Definitions only. Assumes nothing.
use Rattle.std.specs.Prelude.{ℕ, zero, suc, ◌+◌, ◌*◌, ◌%◌, ◌^◌, List, [], ◌∷◌}

-- what the byte after a byte holds
abbrev pub next_byte : ℕ → ℕ
next_byte x = (x + 7) % 2 ^ 8

-- what the word after a word holds
abbrev pub next_word : ℕ → ℕ
next_word x = (x + 7 * 0x0101010101010101) % 2 ^ 64

-- the remainder of an element
abbrev pub remainder : ℕ → ℕ
remainder x = x % 65521

-- n elements, the first as given, each other one from that before it
abbrev pub filled : {X : Type 0} → X → (X → X) → ℕ → List X
filled first next zero = []
filled first next (suc n) = first ∷ filled (next first) next n

-- the digest h, taken on over the elements
abbrev pub digest_after : {X : Type 0} → (X → ℕ) → ℕ → List X → ℕ
digest_after remainder h [] = h
digest_after remainder h (x ∷ xs) = digest_after remainder ((h * 31 + remainder x) % 65521) xs
