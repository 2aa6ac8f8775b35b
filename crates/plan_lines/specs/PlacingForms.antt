-- A placing in memory, in two forms: the words of a placing buffer (request 106) and the byte grid (document 01). Both
-- have a mark for each of 64 rations in each of 96 slots, and each is made of the other. Rations and slots are counted
-- from 0 here. Definitions only. Assumes nothing.
use Rattle.std.specs.Prelude.{◌≡◌, Bool, cond, List, [], ◌∷◌, map, ℕ, ◌+◌, ◌*◌, ◌/◌, ◌%◌, ◌<◌, eqb, length, get_or}
use Rattle.common.specs.Lists.{range, flat_map}
use Rattle.common.specs.Bits.{bit}
use Rattle.common.specs.Buffers.{padded}
use Rattle.checks.specs.Limits.{max_slots, max_rations}
use Rattle.schedules.specs.Slots.{Slots, has}
use Rattle.schedules.specs.Schedules.{Schedule}
use Rattle.plan_lines.specs.Sizes.{placing_words}

-- Words --------------------------------------------------------------------------------

-- the number with these bits, the lowest first
unfoldable pub binary : List Bool → ℕ
binary [] = 0
binary (b ∷ bs) = cond b 1 0 + 2 * binary bs

-- the word of a slot: bit i is 1 where ration i is fed in it, and every other bit is 0
unfoldable pub word_of : Schedule → (slot : ℕ) → ℕ
word_of p t = binary (map (λ c. has c t) p)

-- the words of a placing: slot t in word t, the slots past the day among them
unfoldable pub words_of : Schedule → List ℕ
words_of p = map (word_of p) (range 0 placing_words)

-- Bytes --------------------------------------------------------------------------------

-- 6,144: a byte for each slot of each ration
abbrev pub grid_bytes : ℕ
grid_bytes = max_slots * max_rations

-- 1 for a slot in which a ration is fed, else 0
unfoldable pub bytes_of : Slots → List ℕ
bytes_of = map (λ b. cond b 1 0)

-- the grid's bytes of one ration
unfoldable pub row_bytes : Slots → List ℕ
row_bytes c = padded max_slots (bytes_of c)

-- the byte grid of a placing: byte i × 96 + t is 1 if ration i is fed in slot t, else 0
unfoldable pub grid_of : Schedule → List ℕ
grid_of p = padded grid_bytes (flat_map row_bytes p)

-- Each made of the other --------------------------------------------------------------------

-- byte i × 96 + t is bit i of word t
unfoldable pub grid_from : (words : List ℕ) → List ℕ
grid_from words = map (λ k. bit (get_or words (k % max_slots) 0) (k / max_slots)) (range 0 grid_bytes)

-- bit i of word t is 1 where byte i × 96 + t is 1
unfoldable pub words_from : (grid : List ℕ) → List ℕ
words_from grid = map (λ t. binary (map (λ i. eqb (get_or grid (i * max_slots + t) 0) 1) (range 0 max_rations))) (range 0 placing_words)

-- 96 words and 6,144 bytes mark the same feedings: each byte is its bit, and both forms are made of each other
pub record SameFeedings (words grid : List ℕ) : Type 0 where
  pub words_long : length words ≡ placing_words
  pub grid_long : length grid ≡ grid_bytes
  pub marks : (i t : ℕ) → i < max_rations → t < max_slots → get_or grid (i * max_slots + t) 0 ≡ bit (get_or words t 0) i
  pub to_grid : grid_from words ≡ grid
  pub to_words : words_from grid ≡ words
