-- The slots of a cause in two words, and what writing a line for each requires and ensures. Definitions only. Assumes
-- nothing.
use Rattle.std.specs.Prelude.{◌≡◌, List, ◌++◌, map, ℕ, suc, ◌+◌, ◌-◌, ◌^◌, ◌≤◌, ◌<◌, min, eqb}
use Rattle.common.specs.Bits.{bit}
use Rattle.placing.specs.declared.Cause.{Cause}
use Rattle.placing.specs.CauseCalls.{in_words, in_cause, slots_of}
use Rattle.plan_lines.specs.Lines.{Line, line, members_from}
use Rattle.plan_lines.specs.Putting.{Room}
use Rattle.plan_lines.specs.SetBits.{set_bits}
use Rattle.cause_lines.specs.declared.SlotWords.{SlotWords}

-- a line for each bit of a word, where bit j stands for slot from + 1 + j
abbrev pub bit_lines : (from word : ℕ) → List Line
bit_lines from word = map (λ u. line u 0 0 0) (set_bits (suc from) 64 word)

pub record CanPutSlots (out : List ℕ) (at from word : ℕ) : Type 0 where
  pub low : from ≤ 64
  pub room : Room (bit_lines from word) at out

-- r is a word that has, of the bits of `word`, those of the day's slots and no others; bit j stands for slot
-- from + 1 + j
pub record DayWord (r word from slots : ℕ) : Type 0 where
  pub fits : r < 2 ^ 64
  pub same : set_bits (suc from) 64 r ≡ set_bits (suc from) (min 64 (slots - from)) word

-- r has the bit of one slot alone, where bit j stands for slot from + 1 + j; no bit where none stands for it
pub record SlotWord (r slot from : ℕ) : Type 0 where
  pub bits : (j : ℕ) → j < 64 → eqb (bit r j) 1 ≡ eqb (suc (from + j)) slot

-- of the slots 1 to 96, the words have the cause's
pub record CauseWords (r : SlotWords) (c : Cause) : Type 0 where
  pub set : (t : ℕ) → t < 96 → in_words r.first r.second t ≡ in_cause c t

-- the bits of the words are the cause's slots in a day of so many, rising
pub record SlotsIn (r : SlotWords) (c : Cause) (slots : ℕ) : Type 0 where
  pub first_fits : r.first < 2 ^ 64
  pub second_fits : r.second < 2 ^ 64
  pub members : members_from 1 (slots_of slots c) ≡ set_bits 1 64 r.first ++ set_bits 65 64 r.second
