-- How the feed lines are put: one feeding more, one slot more. Assumes nothing.
use Rattle.std.specs.Prelude.{◌≡◌, List, ℕ, suc, ◌+◌, ◌-◌, ◌*◌, ◌^◌, ◌≤◌, ◌<◌, length, get_or, take}
use Rattle.common.specs.Lists.{range, flat_map, zip_with, count}
use Rattle.common.specs.Bits.{bit}
use Rattle.line.specs.Layout.{line_bytes, fields}
use Rattle.checks.specs.Limits.{max_rations}
use Rattle.line.specs.Line.{write_line}
use Rattle.common.specs.Buffers.{put_at}
use Rattle.plan_lines.specs.Lines.{Line, slot_lines, feed_lines}
use Rattle.plan_lines.specs.Inputs.{tank_at, tanks_of, row_of, placing_of}
use Rattle.plan_lines.specs.Putting.{Putting, Room}
use Rattle.plan_lines.specs.SetBits.{set_bits}
use Rattle.plan_lines.specs.FeedLaws.{word_lines}

-- a part more than the day's slots is never reached
pub record CanAddParts (parts : List ℕ) : Type 0 where
  pub long : length parts ≡ max_rations
  pub few : (j : ℕ) → get_or parts j 0 ≤ 96

-- each ration's part has grown by its bit
pub record PartsAdded (word : ℕ) (old new : List ℕ) : Type 0 where
  pub long : length new ≡ max_rations
  pub each : (j : ℕ) → get_or new j 0 ≡ get_or old j 0 + bit word j

-- the bits of `rest` are still to be added
pub record AddingParts (word rest : ℕ) (old new : List ℕ) : Type 0 where
  pub long : length new ≡ max_rations
  pub word_fits : rest < 2 ^ 64
  pub each : (j : ℕ) → get_or new j 0 + bit rest j ≡ get_or old j 0 + bit word j

pub record CanPutFeeding (out : List ℕ) (at j : ℕ) (numbers parts : List ℕ) : Type 0 where
  pub tanks : length numbers ≡ fields * max_rations
  pub long : length parts ≡ max_rations
  pub ration : j < max_rations
  pub room : at + line_bytes ≤ length out

abbrev pub FeedingPut : (slot blower j : ℕ) → (numbers parts : List ℕ) → (at : ℕ) → (old new : List ℕ) → Type 0
FeedingPut slot blower j numbers parts at old new = new ≡ put_at at (write_line slot blower (tank_at numbers j) (get_or parts j 0)) old

pub record CanPutSlot (out : List ℕ) (at slot word : ℕ) (numbers parts : List ℕ) : Type 0 where
  pub tanks : length numbers ≡ fields * max_rations
  pub long : length parts ≡ max_rations
  pub room : Room (word_lines slot numbers parts 1 (set_bits 0 64 word)) at out

-- the feedings of all bits but those of `rest` were put
pub record SlotPut (slot word : ℕ) (numbers parts : List ℕ) (at : ℕ) (old new : List ℕ) (n rest : ℕ) : Type 0 where
  pub word_fits : rest < 2 ^ 64
  pub putting : Putting (word_lines slot numbers parts 1 (set_bits 0 64 word)) (word_lines slot numbers parts (suc n) (set_bits 0 64 rest)) at old new n

-- the feed lines of k slots from slot t + 1 on
abbrev pub lines_of : (slots : ℕ) → (numbers words : List ℕ) → (t k : ℕ) → List Line
lines_of slots numbers words t k = flat_map (λ u. slot_lines u (zip_with (λ a c. (a, c)) (tanks_of max_rations numbers) (placing_of slots max_rations words))) (range t k)

pub record CanPutFeedings (out : List ℕ) (at slots : ℕ) (numbers words : List ℕ) : Type 0 where
  pub day : slots ≤ 96
  pub tanks : length numbers ≡ fields * max_rations
  pub long : slots ≤ length words
  pub room : Room (feed_lines slots (tanks_of max_rations numbers) (placing_of slots max_rations words)) at out

-- the feedings before slot t + 1 were put, and `parts` has their number for each ration
pub record FeedingsPut (slots : ℕ) (numbers words parts : List ℕ) (t at : ℕ) (old new : List ℕ) (n : ℕ) : Type 0 where
  pub in_day : t ≤ slots
  pub long : length parts ≡ max_rations
  pub so_far : (j : ℕ) → j < max_rations → get_or parts j 0 ≡ count (take t (row_of slots words j))
  pub putting :
      Putting (feed_lines slots (tanks_of max_rations numbers) (placing_of slots max_rations words))
      (lines_of slots numbers words t (slots - t))
      at old new n
