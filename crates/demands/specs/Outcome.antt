-- What demand 3 asks of one call: first its words, as document 01 explains them, then what is asked of the number that
-- a planning call gives, the lines of the listing in its plan buffer and the words of its placing buffer. All is said
-- of a problem (Problem.antt of `planning`): for a sheet planned alone what is left is what its rations ask, the room
-- left is m in every slot, and any sound placing may be taken (`AloneIs`, a field of each demand). ReadListing.antt of
-- `planning` says how lines are read, Inputs.antt of `plan_lines` how words are. Nothing here says how a plan is found;
-- that the calls meet it is demand 3, DemandThree.antt. Definitions only. Assumes nothing.
use Rattle.std.specs.Prelude.{◌≡◌, ◌⊎◌, ◌↔◌, true, ℕ, suc, ◌*◌, ◌≤◌, ◌<◌, length, get_or, take, ◌≤ℤ◌}
use mathlib.Core.List.{List, [], ◌∷◌, ◌++◌, map, Memᴰ}
use Rattle.common.specs.Lists.{range, count}
use Rattle.checks.specs.Refusals.{no_placing}
use Rattle.checks.specs.Sheet.{Sheet}
use Rattle.schedules.specs.Slots.{Slots, has}
use Rattle.schedules.specs.Schedules.{Schedule, Sound, load, volume_of}
use Rattle.schedules.specs.Shortfall.{forced, capacity, shortfall}
use Rattle.schedules.specs.Demands.{demands_of, no_low, full_high}
use Rattle.schedules.specs.DemandLaws.{no_job}
use Rattle.method.specs.Intervals.{Interval, intervals}
use Rattle.method.specs.Keeping.{Keeps, Carries, Before, with_no_slots}
use Rattle.energy.specs.Energy.{starts, energy}
use Rattle.plan_lines.specs.Sizes.{word_bytes}
use Rattle.plan_lines.specs.Lines.{Line, bill_line, members_from}
use Rattle.plan_lines.specs.Text.{plan_word, held_word}
use Rattle.plan_lines.specs.Inputs.{placing_of}
use Rattle.planning.specs.Problem.{Problem, alone, left, room, MayPlace}
use Rattle.planning.specs.ReadListing.{lines_of, head_line, slots_shown, slot_set, stretch_part, feed_part, bill_on, charge_on, stretches_on, in_slot, of_tank, of_meal, placing_on}

-- The demand's words -----------------------------------------------------------------------

-- no placing may be taken
abbrev pub NoneSound : Problem → Type 0
NoneSound p = (q : Schedule) → ¬ MayPlace p q

-- the number of a placing's feedings in each slot
abbrev pub load_of : Sheet → Schedule → List ℕ
load_of s q = load s.slots q

-- stretch v of blower k is on the stretch lines, or is the idle stretch, without slots, that a blower busy from slot 1
-- counts as having
abbrev pub Listed : List Line → ℕ → Interval → Type 0
Listed ls k v = Memᴰ v (with_no_slots (stretches_on ls k))

-- a placing with these loads keeps all stretches settled before stretch v of blower k
abbrev pub KeepsAllBefore : List Line → (loads : List ℕ) → ℕ → Interval → Type 0
KeepsAllBefore ls loads k v = (j : ℕ) (u : Interval) → Listed ls j u → Before j u k v → Keeps loads j u

-- what these words come to for a sheet planned alone: its rations ask their volumes in their windows, high is m in
-- every slot, and a placing may be taken where it is sound
pub record AloneIs (s : Sheet) : Type 0 where
  pub left_is : left (alone s) ≡ demands_of s
  pub room_is : room (alone s) ≡ full_high s
  pub may_is : (q : Schedule) → MayPlace (alone s) q ↔ Sound s.slots (demands_of s) (no_low s) (full_high s) q

-- What is demanded ---------------------------------------------------------------------------

-- Of a held problem's line of counts, the slots on the lines after it, and the set Q of these slots.
pub record Shortage (p : Problem) (counts : Line) (shown : List ℕ) (q : Slots) : Type 0 where
  -- the lines show the slots of Q, each once and rising, and none before the cut
  pub each_once : shown ≡ members_from 1 q
  pub from_cut : (t : ℕ) → has q t ≡ true → p.cut ≤ suc t
  -- the counts are 12, |Q|, what is forced into Q, and the sum of the room over Q
  pub number : counts.a ≡ no_placing
  pub size : counts.b ≡ count q
  pub forced_into : counts.c ≡ forced (left p) q
  pub high_over : counts.d ≡ capacity (room p) q
  -- which is |Q| × m where each slot of Q has room for m
  pub high_is : (m : ℕ) → ((t : ℕ) → has q t ≡ true → get_or (room p) t 0 ≡ m) → counts.d ≡ counts.b * m
  -- what is forced into Q is above what the blowers can feed in it
  pub more : counts.d < counts.c
  -- no set of the day's slots, the empty one among them, has a greater shortfall than Q
  pub at_most : (r : Slots) → length r ≡ p.sheet.slots → shortfall (left p) (room p) r ≤ℤ shortfall (left p) (room p) q
  -- and Q is contained in each set whose shortfall is as great
  pub holds_all : (r : Slots) → length r ≡ p.sheet.slots → shortfall (left p) (room p) q ≤ℤ shortfall (left p) (room p) r
      → (t : ℕ) → has q t ≡ true → has r t ≡ true

-- Of a plan's stretch lines, and the placing q on its feed lines.
pub record SoundPlan (p : Problem) (ls : List Line) (q : Schedule) : Type 0 where
  -- the feedings are a placing that may be taken, and it keeps all stretches
  pub sound : MayPlace p q
  pub keeps : (k : ℕ) (v : Interval) → Listed ls k v → Keeps (load_of p.sheet q) k v
  -- a stretch that ends before slot D, and not before the cut, could not go on: no placing that may be taken keeps all
  -- stretches settled before it and carries it one slot further
  pub stops : (k : ℕ) (v : Interval) → Listed ls k v → p.cut ≤ v.last → v.last < p.sheet.slots
      → (o : Schedule) → KeepsAllBefore ls (load_of p.sheet o) k v → Carries (load_of p.sheet o) k v → ¬ MayPlace p o

-- The lines of a plan are those of the placing p on its feed lines: which stretches and which feedings, and no others.
-- (The state of a stretch, and the order of the feed lines of several slots, are asked by demand 2: `stretch_lines_lem` and
-- `feed_lines_lem` of ByMethod.antt.)
pub record LinesOf (s : Sheet) (ls : List Line) (p : Schedule) : Type 0 where
  -- a head line, stretch lines, feed lines and the bill; the head line has the energy and the starts of the placing's
  -- loads
  pub whole : ls ≡ head_line ls ∷ stretch_part ls ++ (feed_part ls ++ (bill_on ls ∷ []))
  pub energy_is : (head_line ls).a ≡ energy s.blowers s.wake (load_of s p)
  pub starts_are : (head_line ls).b ≡ starts s.blowers s.wake (load_of s p)
  -- the bill is that of the charge of the stretch lines
  pub bill_is : bill_on ls ≡ bill_line (charge_on s.blowers s.wake (stretch_part ls))
  -- the stretches of each blower, by slot: the longest runs of slots in which it is busy, or idle, throughout; there
  -- are no lines of other blowers
  pub runs : (k : ℕ) → 1 ≤ k → k ≤ s.blowers → stretches_on (stretch_part ls) k ≡ intervals (load_of s p) k
  pub blowers : (k : ℕ) (v : Interval) → Memᴰ v (stretches_on (stretch_part ls) k) → (1 ≤ k) × (k ≤ s.blowers)
  -- the feed lines of slot t + 1 have the blowers 1, 2, .., one for each of its feedings
  pub in_slot_lem : (t : ℕ) → t < s.slots → map (λ l. l.b) (in_slot (suc t) (feed_part ls)) ≡ range 1 (get_or (load_of s p) t 0)
  -- those of ration i + 1 have its slots, each once and rising, and the parts 1, 2, .., one for each slot of its volume
  pub of_ration : (i : ℕ) → i < length s.jobs → map (λ l. l.a) (of_meal (get_or s.jobs i no_job) (feed_part ls)) ≡ members_from 1 (get_or p i [])
  pub parts : (i : ℕ) → i < length s.jobs → map (λ l. l.d) (of_meal (get_or s.jobs i no_job) (feed_part ls)) ≡ range 1 (volume_of (demands_of s) i)
  -- no tank has two blowers in a slot, though it may have several meals
  pub one_blower : (t tank : ℕ) → t < s.slots → length (of_tank tank (in_slot (suc t) (feed_part ls))) ≤ 1
  -- each feed line is one of a meal of the sheet, at a slot of its window: there are none of other tanks or other slots
  pub of_meal_lem : (l : Line) → Memᴰ l (feed_part ls) → (i : ℕ) × (i < length s.jobs)
      × (l.c ≡ (get_or s.jobs i no_job).tank) × ((get_or s.jobs i no_job).release ≤ l.a) × (l.a ≤ (get_or s.jobs i no_job).deadline)

-- Of the number that a call gives for a problem. A call that is lent no plan buffer owes no more where it is held.
pub record PlannedOrHeld (p : Problem) (number : ℕ) : Type 0 where
  pub either : (number ≡ 0) ⊎ (number ≡ no_placing)
  -- 12 exactly where no placing may be taken
  pub held_iff : (number ≡ no_placing) ↔ NoneSound p

-- Of the number and the listing that a call wrote.
pub record Outcome (p : Problem) (number : ℕ) (listing : List ℕ) : Type 0 where
  pub planned_or_held : PlannedOrHeld p number
  -- a held problem's listing shows a set of slots, with both counts
  pub held_word_lem : number ≡ no_placing → take word_bytes listing ≡ held_word
  pub held : number ≡ no_placing → Shortage p (head_line (lines_of listing)) (slots_shown (lines_of listing)) (slot_set p.sheet.slots (slots_shown (lines_of listing)))
  -- the feedings on the lines of a plan are a sound placing that keeps all its stretches, and no stretch that stops
  -- could go on
  pub plan_word_lem : number ≡ 0 → take word_bytes listing ≡ plan_word
  pub plan : number ≡ 0 → SoundPlan p (stretch_part (lines_of listing)) (placing_on p.sheet.slots p.sheet.jobs (feed_part (lines_of listing)))
  pub plan_lines_lem : number ≡ 0 → LinesOf p.sheet (lines_of listing) (placing_on p.sheet.slots p.sheet.jobs (feed_part (lines_of listing)))

-- the placing that is marked in the words of a placing buffer: ration i is fed in slot t where bit i − 1 of word t − 1
-- is 1
abbrev pub placing_in : Sheet → (words : List ℕ) → Schedule
placing_in s words = placing_of s.slots (length s.jobs) words

-- the feedings marked in a placing buffer are those on the lines of a listing
abbrev pub SamePlacing : Sheet → (listing words : List ℕ) → Type 0
SamePlacing s listing words = placing_in s words ≡ placing_on s.slots s.jobs (feed_part (lines_of listing))
