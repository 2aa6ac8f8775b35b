-- What the method's loops require and ensure where each stretch that ends is listed with its cause. w has the
-- words that hold a placing, as they are lent, w' as they are afterwards; out is the buffer. Definitions only. Assumes
-- nothing.
use Rattle.std.specs.Prelude.{◌≡◌, Bool, false, List, ◌++◌, ℕ, ◌+◌, ◌-◌, ◌≤◌, ◌<◌, length}
use Rattle.checks.specs.Limits.{max_slots}
use Rattle.schedules.specs.Schedules.{Demand}
use Rattle.placing.specs.declared.Words.{Words}
use Rattle.method.specs.Method.{Bounds}
use Rattle.method.specs.Slotwise.{settle_from}
use Rattle.method.specs.Endings.{EndedStretch}
use Rattle.method.specs.SlotwiseEndings.{ended_from, ended_each}
use Rattle.stretches.specs.Settling.{Under, SomeDay}
use Rattle.plan_lines.specs.Sizes.{causes_bytes}
use Rattle.cause_lines.specs.declared.Extent.{Extent}
use Rattle.cause_lines.specs.EntryCalls.{Listing}
use Rattle.endings.specs.declared.Progress.{Progress}

-- the buffer has room, and what was listed is in it
pub record Fits (slots : ℕ) (x : Extent) (out : List ℕ) : Type 0 where
  pub day : slots ≤ max_slots
  pub room : causes_bytes ≤ length out
  pub within : x.length ≤ causes_bytes

-- whatever was listed in `out`, these entries are listed behind it in `out'`
abbrev pub ListedMore : List EndedStretch → Extent → (out : List ℕ) → Extent → (out' : List ℕ) → Type 0
ListedMore es x out x' out' = (us : List EndedStretch) (old : List ℕ) → causes_bytes ≤ length old → Listing us old out x → Listing (us ++ es) old out' x'

-- where blower k is after the first t slots, on the way from bounds b: the bounds so far, what is left to settle and to
-- list, and that what was passed is listed
pub record Reached (slots k : ℕ) (busy : Bool) (first t : ℕ) (ds : List Demand) (b : Bounds) (x₀ : Extent) (out₀ : List ℕ)
    (w : Words) (x : Extent) (out : List ℕ) : Type 0 where
  pub bounds : Bounds
  pub under : Under slots ds bounds w
  pub same : settle_from slots ds k false slots 0 b ≡ settle_from slots ds k busy (slots - t) t bounds
  pub done : List EndedStretch
  pub ends : ended_from slots ds k false 1 slots 0 b ≡ done ++ ended_from slots ds k busy first (slots - t) t bounds
  pub listed : ListedMore done x₀ out₀ x out

pub record CanAdvance (slots t k : ℕ) (progress : Progress) (w : Words) (out : List ℕ) : Type 0 where
  pub day : SomeDay slots w
  pub inside : t < slots
  pub blower : 1 ≤ k
  pub fits : Fits slots progress.extent out

-- what `advance` ensures: one slot more
pub record Advanced (r : Progress) (slots t k : ℕ) (progress : Progress) (w : Words) (out : List ℕ) (w' : Words) (out' : List ℕ) : Type 0 where
  pub fits : Fits slots r.extent out'
  pub same_length : length out' ≡ length out
  pub goes : (ds : List Demand) (b : Bounds) (x₀ : Extent) (out₀ : List ℕ)
      → Reached slots k progress.busy progress.first t ds b x₀ out₀ w progress.extent out
      → Reached slots k r.busy r.first (t + 1) ds b x₀ out₀ w' r.extent out'

-- what the loops require
pub record CanList (slots : ℕ) (x : Extent) (w : Words) (out : List ℕ) : Type 0 where
  pub day : SomeDay slots w
  pub fits : Fits slots x out

-- what `list_blower` ensures: blower k is settled, and its stretches are listed
pub record BlowerListed (r : Extent) (slots k : ℕ) (x : Extent) (w : Words) (out : List ℕ) (w' : Words) (out' : List ℕ) : Type 0 where
  pub fits : Fits slots r out'
  pub same_length : length out' ≡ length out
  pub settled : (ds : List Demand) (b : Bounds) → Under slots ds b w → Under slots ds (settle_from slots ds k false slots 0 b) w'
  pub listed : (ds : List Demand) (b : Bounds) → Under slots ds b w → ListedMore (ended_from slots ds k false 1 slots 0 b) x out r out'

-- what `list_stretches` ensures: the stretches of all blowers are listed from the front of the buffer on
abbrev pub AllListed : (r : Extent) (slots m : ℕ) (w : Words) (out out' : List ℕ) → Type 0
AllListed r slots m w out out' = (ds : List Demand) (b : Bounds) → Under slots ds b w → Listing (ended_each slots ds m b) out out' r
