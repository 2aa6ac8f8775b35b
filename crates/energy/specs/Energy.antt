-- States of stretches, starts and energy. Definitions only. Assumes nothing.
use Rattle.std.specs.Prelude.{Bool, ◌&&◌, ◌||◌, cond, List, [], ◌∷◌, map, ℕ, ◌+◌, ◌*◌, leb, eqb, length}
use Rattle.common.specs.Lists.{range, sum}
use Rattle.method.specs.Intervals.{Interval, intervals, size}
use Rattle.energy.specs.Listed.{ListedStretch}

-- a stretch that touches slot 1 or the last slot
unfoldable pub at_end : (slots : ℕ) → Interval → Bool
at_end slots v = eqb v.first 1 || eqb v.last slots

-- a stretch's state in a day of so many slots: 2 busy; an idle stretch is off (0) at any length at an end of the day, and with at least q slots within it; a
-- shorter one is on (1)
unfoldable pub state : (slots wake : ℕ) → Interval → ℕ
state d q v = cond v.busy 2 (cond (at_end d v || leb q (size v)) 0 1)

-- what its line of the listing gives of a stretch of blower k
unfoldable pub listed : (slots wake k : ℕ) → Interval → ListedStretch
listed d q k v = record { blower = k; first = v.first; last = v.last; state = state d q v }

-- the stretches that are listed for blower k
unfoldable pub listed_for : (wake : ℕ) → (counts : List ℕ) → (k : ℕ) → List ListedStretch
listed_for q counts k = map (listed (length counts) q k) (intervals counts k)

-- One blower -------------------------------------------------------------------

-- of so many slots in one state, those in which the blower is on
unfoldable pub on_in : (state slots : ℕ) → ℕ
on_in x n = cond (eqb x 0) 0 n

-- the slots in which a blower with these stretches is on, busy ones included
unfoldable pub on_slots : (slots wake : ℕ) → List Interval → ℕ
on_slots d q vs = sum (map (λ v. on_in (state d q v) (size v)) vs)

-- a start: a step from off to on
unfoldable pub start_at : (before after : ℕ) → ℕ
start_at before after = cond (eqb before 0 && leb 1 after) 1 0

-- the starts along a list of states, after the state before it
unfoldable pub starts_from : ℕ → List ℕ → ℕ
starts_from before [] = 0
starts_from before (x ∷ xs) = start_at before x + starts_from x xs

-- blowers are off before slot 1
unfoldable pub starts_of : (slots wake : ℕ) → List Interval → ℕ
starts_of d q vs = starts_from 0 (map (state d q) vs)

-- All blowers ------------------------------------------------------------------

-- the starts of m blowers with these counts
unfoldable pub starts : ℕ → ℕ → List ℕ → ℕ
starts m q counts = sum (map (λ k. starts_of (length counts) q (intervals counts k)) (range 1 m))

-- their on slots
unfoldable pub on : ℕ → ℕ → List ℕ → ℕ
on m q counts = sum (map (λ k. on_slots (length counts) q (intervals counts k)) (range 1 m))

-- energy: the number of on slots, plus q for each start
unfoldable pub energy : ℕ → ℕ → List ℕ → ℕ
energy m q counts = on m q counts + q * starts m q counts
