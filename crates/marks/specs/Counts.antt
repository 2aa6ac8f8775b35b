-- The marks counted from slot 1 on, and what is read off the counts. Definitions only. Assumes nothing.
use Rattle.std.specs.Prelude.{List, ℕ, suc, ◌-◌, length, get_or, take}
use Rattle.common.specs.Lists.{count}
use Rattle.checks.specs.Limits.{max_slots}
use Rattle.common.specs.Buffers.{padded}
use Rattle.schedules.specs.Tabulate.{tab}
use Rattle.marks.specs.Marks.{marked}

-- how many of the slots 1 to t are marked
abbrev pub marked_to : List ℕ → ℕ → ℕ
marked_to marks t = count (take t (marked marks))

-- the counts: place t, for t from 0 to D, has the marks in the slots 1 to t; the places after these, to 97 in all, have 0
unfoldable pub counts_before : List ℕ → List ℕ
counts_before marks = padded (suc max_slots) (tab (suc (length marks)) (marked_to marks))

-- the marks in a window: those up to its last slot, less those before its first
abbrev pub marked_in : (before : List ℕ) (release deadline : ℕ) → ℕ
marked_in before release deadline = get_or before deadline 0 - get_or before (release - 1) 0

-- the slots of a window that are not marked: its length less the marks in it
abbrev pub unmarked_in : (before : List ℕ) (release deadline : ℕ) → ℕ
unmarked_in before release deadline = (suc deadline - release) - marked_in before release deadline
