-- What demands 2 and 3 ask of the causes' listing (request 105), over the entries that are read off it. All is said of
-- a problem (Problem.antt of `planning`). Definitions only. Assumes nothing.
use Rattle.std.specs.Prelude.{◌≡◌, ◌↔◌, Bool, true, false, ℕ, ◌<◌, ltb, length, take}
use mathlib.Core.List.{List, map, Memᴰ}
use Rattle.common.specs.Lists.{keep}
use Rattle.method.specs.Method.{bounds_under}
use Rattle.method.specs.Intervals.{Interval}
use Rattle.method.specs.Keeping.{with_no_slots}
use Rattle.method.specs.Endings.{EndedStretch, in_order, Explained, endings, settled_endings}
use Rattle.plan_lines.specs.Sizes.{causes_bytes}
use Rattle.plan_lines.specs.Lines.{Line}
use Rattle.cause_lines.specs.Entries.{entries_text, MostThatFit}
use Rattle.planning.specs.Problem.{Problem, left, room}
use Rattle.planning.specs.ReadListing.{stretches_on}
use Rattle.causes.specs.ReadCauses.{Entry, entry_of}

-- the entries are those of the first stretches, as many as 65,536 bytes hold; of a listing that was not cut, of all of
-- them
pub record EntriesOf (stretches : List EndedStretch) (cut : Bool) (es : List Entry) : Type 0 where
  pub front : es ≡ map entry_of (take (length es) stretches)
  pub most : MostThatFit causes_bytes stretches (length es)
  pub cut_iff : (cut ≡ true) ↔ (causes_bytes < length (entries_text stretches))
  pub whole : cut ≡ false → es ≡ map entry_of stretches

-- Demand 2: by the method -----------------------------------------------------------------

-- the stretches that the method ends before slot D, in the order in which it settles them: blower after blower, the
-- runs that it takes, each with the bounds that it has come to
abbrev pub ended_by_method : Problem → List EndedStretch
ended_by_method p = settled_endings p.sheet.slots (left p) p.sheet.blowers (bounds_under p.sheet.slots (room p))

abbrev pub CausesByMethod : Problem → (cut : Bool) → List Entry → Type 0
CausesByMethod p cut es = EntriesOf (ended_by_method p) cut es

-- Demand 3: beside the plan's own lines ---------------------------------------------------

-- the stretches on a plan's stretch lines, with the idle one without slots of a blower that is busy from slot 1, in
-- settling order: by blower from m down, then by slot
abbrev pub stretches_in_order : Problem → List Line → List (ℕ × Interval)
stretches_in_order p ls = in_order (λ k. with_no_slots (stretches_on ls k)) p.sheet.blowers

-- those that end before slot D, each with its cause under the bounds that the stretches before it on the lines set
abbrev pub ended_on : Problem → List Line → List EndedStretch
ended_on p ls = endings p.sheet.slots (left p) (bounds_under p.sheet.slots (room p)) (stretches_in_order p ls)

-- blower and last slot, of an entry and of a stretch
abbrev pub entry_end : Entry → ℕ × ℕ
entry_end x = (x.blower, x.last)

abbrev pub stretch_end : ℕ × Interval → ℕ × ℕ
stretch_end r = (r.0, r.1.last)

-- Of the entries of a causes' listing, and the stretch lines of the plan of the same problem.
pub record CausesShown (p : Problem) (ls : List Line) (cut : Bool) (es : List Entry) : Type 0 where
  -- blower and last slot of the entries are those of the plan's own stretches that end before slot D, from the first on
  pub stretches_are : map entry_end es ≡ take (length es) (map stretch_end (keep (λ r. ltb r.1.last p.sheet.slots) (stretches_in_order p ls)))
  -- with their causes, as many as fit
  pub listed : EntriesOf (ended_on p ls) cut es
  -- each of which is the true one
  pub explained : (e : EndedStretch) → Memᴰ e (ended_on p ls) → Explained p.sheet.slots (left p) e
