-- The checks that a call makes of its sheet alone, whichever they are, and what was read under them. Definitions only.
-- Assumes nothing.
use Rattle.std.specs.Prelude.{◌≡◌, true, List, [], ℕ, length}
use Rattle.checks.specs.declared.Refusal.{Refusal}
use Rattle.sheet.specs.declared.Reading.{Reading}
use Rattle.sheet.specs.declared.Written.{Written}
use Rattle.checks.specs.Refusals.{no_placing}
use Rattle.checks.specs.Sheet.{Sheet}
use Rattle.checks.specs.Checks.{first_refusal}
use Rattle.sheet.specs.Calls.{reading_from, write_refusal_for, written_of, buffer_after}
use Rattle.checks.specs.FaultLaws.{Numbered}
use Rattle.checks.specs.RangeLaws.{ValuesInRange}

-- none, or refused first by another number than 12
pub record OfSheet (rs : List Refusal) : Type 0 where
  pub not_held : (first_refusal rs).number ≡ no_placing → ⊥

-- the checks of the sheet alone: their numbers are neither 0 nor 12, and where none applies the sheet's values are in
-- range. A volume may be 0: those of a sheet as it is lent are not, but one that is cut may be (request 111).
pub record OwnChecks (own : List Refusal) (s : Sheet) : Type 0 where
  pub numbered : Numbered own
  pub of_sheet : OfSheet own
  pub values : own ≡ [] → ValuesInRange 0 s (length s.jobs) true

-- r is what is read of a sheet under these checks
pub record ReadFrom (own : List Refusal) (s : Sheet) (r : Reading) : Type 0 where
  pub checks : OwnChecks own s
  pub is : r ≡ reading_from own s

-- r is what is read of some sheet under some checks
pub record SomeReading (r : Reading) : Type 0 where
  pub own : List Refusal
  pub sheet : Sheet
  pub read : ReadFrom own sheet r

-- .. of which none applied
pub record ReadSheet (r : Reading) : Type 0 where
  pub some : SomeReading r
  pub zero : r.number ≡ 0

-- what is written, and what is left in the buffer, at a refusal and a sheet
abbrev pub Wrote : Refusal → Sheet → (old new : List ℕ) → Written → Type 0
Wrote f s old new w = (w ≡ written_of f s) × (new ≡ buffer_after f s old)

-- .. of whatever sheet was read
abbrev pub ReadWritten : Reading → (old new : List ℕ) → Written → Type 0
ReadWritten r old new w = (own : List Refusal) (s : Sheet) → ReadFrom own s r
    → Wrote (write_refusal_for own s (length old)) s old new w
