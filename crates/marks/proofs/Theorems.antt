-- The marks in a window as the difference of two counts from slot 1 on (request 104): of every accepted list of marks and every window of the day.
-- Assumes nothing.
use Rattle.std.specs.Prelude.{◌≡◌, false, List, ℕ, suc, ◌+◌, ◌-◌, ◌≤◌, length, get_or, take}
use Rattle.std.proofs.Common.{sym, arith}
use Rattle.common.specs.Lists.{count}
use Rattle.schedules.specs.Slots.{window, inside, outside}
use Rattle.marks.specs.Marks.{marked, marks_fault}
use Rattle.marks.specs.Counts.{counts_before}
use Rattle.marks.proofs.CountLaws.{accepted_long, counts_before_at, counts_before_all, counts_window, inside_marked_in, outside_unmarked_in}

module _ (slots : ℕ) (marks : List ℕ) (accepted : marks_fault slots marks ≡ false) where
  long : length marks ≡ slots
  long = accepted_long slots marks accepted

  -- place t of the counts has the marks in the slots 1 to t
  pub counts_are : (t : ℕ) → t ≤ slots → get_or (counts_before marks) t 0 ≡ count (take t (marked marks))
  counts_are t l = counts_before_at marks t (omega (arith, long))

  -- |Q| is the count of the whole day
  pub marks_of_day : count (marked marks) ≡ get_or (counts_before marks) slots 0
  marks_of_day = sym (counts_before_all marks slots (sym long))

  module _ (release deadline : ℕ) (first : 1 ≤ release) (order : release ≤ deadline) (last : deadline ≤ slots) where
    -- the marks before a window and those in it are the marks up to its last slot
    pub marks_up_to : get_or (counts_before marks) (release - 1) 0 + inside (window slots release deadline) (marked marks) ≡ get_or (counts_before marks) deadline 0
    marks_up_to = rw long at (counts_window marks release deadline first order (omega (arith, long)))

    -- the marks in a window are the difference of two counts
    pub marks_in_window : inside (window slots release deadline) (marked marks) ≡ get_or (counts_before marks) deadline 0 - get_or (counts_before marks) (release - 1) 0
    marks_in_window = rw long at (inside_marked_in marks release deadline first order (omega (arith, long)))

    -- and its slots that are not marked are its length less that
    pub unmarked_in_window : outside (window slots release deadline) (marked marks)
        ≡ (suc deadline - release) - (get_or (counts_before marks) deadline 0 - get_or (counts_before marks) (release - 1) 0)
    unmarked_in_window = rw long at (outside_unmarked_in marks release deadline first order (omega (arith, long)))
