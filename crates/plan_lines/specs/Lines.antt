-- The lines of a plan's listing and of a held sheet's. Definitions only. Assumes nothing.
-- What is listed is given as plain values, however it was found.
use Rattle.std.specs.Prelude.{cond, List, [], ◌∷◌, ◌++◌, map, ℕ, suc, length, take}
use Rattle.common.specs.Lists.{range, count, keep, flat_map, zip_with}
use Rattle.schedules.specs.Slots.{Slots, has}
use Rattle.schedules.specs.Schedules.{Schedule}
use Rattle.method.specs.Intervals.{Interval, intervals}
use Rattle.energy.specs.Energy.{state, starts, energy}
use Rattle.bill.specs.Bill.{charge, amount_of}
use Rattle.checks.specs.Refusals.{no_placing}

-- A line of a listing: four numbers.
pub record Line : Type 0 where
  pub a : ℕ
  pub b : ℕ
  pub c : ℕ
  pub d : ℕ

abbrev pub line : ℕ → ℕ → ℕ → ℕ → Line
line a b c d = record { a = a; b = b; c = c; d = d }

-- A plan --------------------------------------------------------------------------

-- What a plan's listing is made of.
pub record Plan : Type 0 where
  pub slots : ℕ  -- D
  pub blowers : ℕ  -- m
  pub wake : ℕ  -- q
  pub tanks : List ℕ  -- of the rations, in sheet order
  pub counts : List ℕ  -- of the slots
  pub placing : Schedule  -- the feedings

-- a stretch of blower k: blower, first, last, state (0 off, 1 idle and on, 2 busy)
unfoldable pub stretch_line : (slots wake k : ℕ) → Interval → Line
stretch_line d q k v = line k v.first v.last (state d q v)

-- the stretches of blower k, by slot
unfoldable pub blower_lines : (wake : ℕ) → (counts : List ℕ) → (k : ℕ) → List Line
blower_lines q counts k = map (stretch_line (length counts) q k) (intervals counts k)

-- the stretch lines, by blower from 1, then slot
unfoldable pub stretch_lines : (blowers wake : ℕ) → (counts : List ℕ) → List Line
stretch_lines m q counts = flat_map (blower_lines q counts) (range 1 m)

-- a feeding's part: 1 for the ration's first feeding, then 2, ..; c has the slots in which the ration is fed, slot t + 1 among them
unfoldable pub part_at : ℕ → Slots → ℕ
part_at t c = count (take (suc t) c)

-- the rations fed in slot t + 1, of some given by their tanks and the slots in which they are fed
unfoldable pub fed_in : ℕ → List (ℕ × Slots) → List (ℕ × Slots)
fed_in t = keep (λ r. has r.1 t)

-- a feeding in slot t + 1 by blower k: slot, blower, tank, part
unfoldable pub feed_line : ℕ → ℕ → ℕ × Slots → Line
feed_line t k r = line (suc t) k r.0 (part_at t r.1)

-- the feedings in slot t + 1: fed rations take blowers 1, 2, .. in sheet order
unfoldable pub slot_lines : ℕ → List (ℕ × Slots) → List Line
slot_lines t rows = zip_with (feed_line t) (range 1 (length (fed_in t rows))) (fed_in t rows)

-- the feed lines, by slot, then blower
unfoldable pub feed_lines : (slots : ℕ) → (tanks : List ℕ) → Schedule → List Line
feed_lines slots tanks p = flat_map (λ t. slot_lines t (zip_with (λ a c. (a, c)) tanks p)) (range 0 slots)

-- the bill of a charge in tenths of a cent: whole hundreds of cents, remaining cents, 0, 0
unfoldable pub bill_line : ℕ → Line
bill_line tenths = line (amount_of tenths).hundreds (amount_of tenths).remaining 0 0

-- the lines of a plan; first energy, starts, number of stretch lines, number of feed lines; last the bill
unfoldable pub plan_lines : Plan → List Line
plan_lines p =
    let s : List Line = stretch_lines p.blowers p.wake p.counts in
    let f : List Line = feed_lines p.slots p.tanks p.placing in
    line (energy p.blowers p.wake p.counts) (starts p.blowers p.wake p.counts) (length s) (length f)
    ∷ s ++ (f ++ (bill_line (charge p.blowers p.wake p.counts) ∷ []))

-- A held sheet -----------------------------------------------------------------------

-- the slots of a set from slot t on, rising
unfoldable pub members_from : ℕ → Slots → List ℕ
members_from t [] = []
members_from t (b ∷ q) = cond b (t ∷ []) [] ++ members_from (suc t) q

-- a line for each slot of a set: slot, 0, 0, 0
unfoldable pub member_lines : ℕ → Slots → List Line
member_lines t q = map (λ u. line u 0 0 0) (members_from t q)

-- a sheet held for want of blowers: 12, |Q|, forced(Q), the sum of high over Q, then the slots of Q
unfoldable pub held_lines : Slots → (forced capacity : ℕ) → List Line
held_lines q forced capacity = line no_placing (count q) forced capacity ∷ member_lines 1 q
