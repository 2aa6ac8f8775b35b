-- What a call leaves in a lent buffer, or in a list of fixed length: new elements, and the others as they were.
-- Definitions only.
use Rattle.std.specs.Prelude.{List, ◌++◌, ℕ, ◌+◌, ◌-◌, length, take, drop, replicate}

-- new elements at the front of a lent buffer, bytes or words; those after them keep their values
unfoldable pub over : List ℕ → List ℕ → List ℕ
over new old = new ++ drop (length new) old

-- a buffer with new elements from a place on; its others keep their values
unfoldable pub put_at : ℕ → List ℕ → List ℕ → List ℕ
put_at at new old = take at old ++ (new ++ drop (at + length new) old)

-- numbers in a list of fixed length: 0 past their end
unfoldable pub padded : ℕ → List ℕ → List ℕ
padded n xs = xs ++ replicate (n - length xs) 0
