-- The causes' listing (request 105): an entry for each stretch that ends before the day's last slot, and where the
-- listing is cut. It has no opening word and no head line. Definitions only. Assumes nothing.
use Rattle.std.specs.Prelude.{Bool, cond, List, [], ◌∷◌, ℕ, suc, ◌-◌, ◌≤◌, ◌<◌, leb, ltb, length, take}
use Rattle.common.specs.Lists.{count, flat_map}
use Rattle.schedules.specs.Causes.{Obstacle}
use Rattle.method.specs.Endings.{EndedStretch}
use Rattle.plan_lines.specs.Sizes.{causes_bytes}
use Rattle.plan_lines.specs.Lines.{Line, line, member_lines}
use Rattle.plan_lines.specs.Text.{write_lines}

-- the lines of an entry: the stretch's blower and last slot, the cause and how many slots it has; then each of these
unfoldable pub entry_lines : (blower last : ℕ) → Obstacle → List Line
entry_lines k last o = line k last o.number (count o.set) ∷ member_lines 1 o.set

unfoldable pub entry_text : EndedStretch → List ℕ
entry_text e = write_lines (entry_lines e.blower e.stretch.last e.cause)

-- the entries of these stretches, one after another
unfoldable pub entries_text : List EndedStretch → List ℕ
entries_text = flat_map entry_text

-- the entries that are written where there is room for so many bytes: those before the first that does not fit
unfoldable pub fitting : (room : ℕ) → List EndedStretch → List EndedStretch
fitting room [] = []
fitting room (e ∷ es) = cond (leb (length (entry_text e)) room) (e ∷ fitting (room - length (entry_text e)) es) []

-- the listing, of 65,536 bytes at most
unfoldable pub causes_text : List EndedStretch → List ℕ
causes_text es = entries_text (fitting causes_bytes es)

-- all entries together are longer, and the listing is cut
unfoldable pub is_cut : List EndedStretch → Bool
is_cut es = ltb causes_bytes (length (entries_text es))

-- What a cut leaves, as request 105 says it: the first n entries are within the room, and one entry more would go
-- beyond it.
pub record MostThatFit (room : ℕ) (es : List EndedStretch) (n : ℕ) : Type 0 where
  pub few : n ≤ length es
  pub within : length (entries_text (take n es)) ≤ room
  pub most : n < length es → room < length (entries_text (take (suc n) es))
