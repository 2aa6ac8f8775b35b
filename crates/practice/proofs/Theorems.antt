-- The practice sheets' theorems, for every seed: no check of a sheet refuses one, and it is read back to the values
-- drawn. Nothing is said about 12: some have no sound placing. Assumes nothing.
use Rattle.std.specs.Prelude.{◌≡◌, ℕ, []}
use Rattle.checks.specs.Sheet.{sheet_of, write_sheet}
use Rattle.checks.specs.Checks.{faults}
use Rattle.checks.specs.SheetLaws.{sheet_of_write_sheet}
use Rattle.checks.specs.RangeLaws.{fits_in_range}
use Rattle.sheet.specs.Calls.{accepted, reading_of}
use Rattle.sheet.proofs.Theorems.{written_accepted, written_read}
use Rattle.practice.specs.Practice.{practice_sheet}
use Rattle.practice.proofs.PracticeLaws.{practice_faults, practice_in_range}

-- The sheet made passes the checks 1 to 9 and 13, ..
pub practice_accepted : (seed : ℕ) → faults (write_sheet (practice_sheet seed)) ≡ []
practice_accepted seed = written_accepted (practice_sheet seed) (practice_faults seed)

-- .. and reading it gives the values drawn: by the call, ..
pub practice_read : (seed : ℕ) → reading_of (write_sheet (practice_sheet seed)) ≡ accepted (practice_sheet seed)
practice_read seed = written_read (practice_sheet seed) (practice_faults seed)

-- .. and as the sheet that is planned.
pub practice_values : (seed : ℕ) → sheet_of (write_sheet (practice_sheet seed)) ≡ practice_sheet seed
practice_values seed = sheet_of_write_sheet (practice_sheet seed) (fits_in_range (practice_sheet seed) (practice_in_range seed))
