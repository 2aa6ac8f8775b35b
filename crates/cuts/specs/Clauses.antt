-- What the functions within the crate and those for the layers above require and ensure, of whatever sheet was read.
-- Definitions only. Assumes nothing.
use Rattle.std.specs.Prelude.{◌≡◌, Bool, true, false, List, [], ℕ, suc, ◌+◌, ◌*◌, ◌≤◌, ◌<◌, length, replicate}
use Rattle.common.specs.Buffers.{padded}
use Rattle.checks.specs.declared.Refusal.{Refusal}
use Rattle.checks.specs.Limits.{max_slots}
use Rattle.checks.specs.Sheet.{Sheet}
use Rattle.std.specs.Int.Signed.{lt_z}
use Rattle.std.specs.Prelude.{pos}
use Rattle.questions.specs.Calls.{shortfall_for}
use Rattle.sheet.specs.declared.Reading.{Reading}
use Rattle.sheet.specs.Calls.{accepted}
use Rattle.sheet.specs.OwnChecks.{ReadFrom}
use Rattle.placing.specs.Rations.{demands_from}
use Rattle.placing.specs.Words.{WindowWords}
use Rattle.placing.specs.Represents.{Holds}
use Rattle.cuts.specs.Cuts.{max_share, cut_sheet, feasible_sheet, greatest_share}

-- x is what would be read of the cut sheet
abbrev pub CutFrom : (share : ℕ) (r x : Reading) → Type 0
CutFrom share r x = (own : List Refusal) (s : Sheet) → ReadFrom own s r → x ≡ accepted (cut_sheet share s)

-- Questions -------------------------------------------------------------------------

-- of a sheet that was read, the bytes H of its highs, and words F and R that hold some placing of its windows, which no
-- share changes, with the volumes N
pub record CanAskShares (r : Reading) (H N F R : List ℕ) : Type 0 where
  pub highs : H ≡ padded max_slots (replicate r.slots r.blowers)
  pub words : List ℕ
  pub windows : WindowWords max_slots (demands_from max_slots r.rations r.numbers) words
  pub holds : Holds words N F R

-- whether the cut sheet has a sound placing; where it has none there is a mark for each slot of the longest day
pub record ShareAnswered (share : ℕ) (r : Reading) (can : Bool) (marks : List ℕ) : Type 0 where
  pub answer : (own : List Refusal) (s : Sheet) → ReadFrom own s r → can ≡ feasible_sheet (cut_sheet share s)
  pub marks_long : can ≡ false → length marks ≡ max_slots

-- The greatest share ----------------------------------------------------------------

-- this share has a sound placing
abbrev pub ReadPossible : Reading → (share : ℕ) → Type 0
ReadPossible r share = (own : List Refusal) (s : Sheet) → ReadFrom own s r → feasible_sheet (cut_sheet share s) ≡ true

-- no share from this one on has a sound placing
abbrev pub NoneFrom : Sheet → ℕ → Type 0
NoneFrom s from = (share : ℕ) → from ≤ share → share ≤ max_share → feasible_sheet (cut_sheet share s) ≡ false

-- whether the marked slots show that this share has no sound placing: the cut sheet has a shortfall above zero in them
abbrev pub ReadDeficient : (share : ℕ) (r : Reading) (marks : List ℕ) (shown : Bool) → Type 0
ReadDeficient share r marks shown =
    (own : List Refusal) (s : Sheet) → ReadFrom own s r → shown ≡ lt_z (pos 0) (shortfall_for [] (cut_sheet share s) marks).shortfall

abbrev pub ReadNone : Reading → ℕ → Type 0
ReadNone r from = (own : List Refusal) (s : Sheet) → ReadFrom own s r → NoneFrom s from

-- low has one, and none from high on has
pub record Between (s : Sheet) (low high : ℕ) : Type 0 where
  pub order : low < high
  pub most : high ≤ suc max_share
  pub possible : feasible_sheet (cut_sheet low s) ≡ true
  pub none : NoneFrom s high

abbrev pub ReadBetween : Reading → (low high : ℕ) → Type 0
ReadBetween r low high = (own : List Refusal) (s : Sheet) → ReadFrom own s r → Between s low high

-- what is between two ends is at most twice what is to be left between them
abbrev pub CanHalve : (reach low high : ℕ) → Type 0
CanHalve reach low high = (1 ≤ reach) × (reach ≤ max_share) × (high ≤ low + 2 * reach)

abbrev pub ShareFound : Reading → (share : ℕ) → Type 0
ShareFound r share = (own : List Refusal) (s : Sheet) → ReadFrom own s r → share ≡ greatest_share s
