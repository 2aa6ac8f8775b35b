-- An accepted sheet, or the refusal of one that is not, as a reading. Definitions only.
use Rattle.std.specs.Prelude.{ℕ, Result, Ok, Err}
use Rattle.checks.specs.declared.Refusal.{Refusal}
use Rattle.checks.specs.Sheet.{Sheet}
use Rattle.sheet.specs.declared.Reading.{Reading}
use Rattle.sheet.specs.declared.Written.{Written}
use Rattle.sheet.specs.declared.feed_sheet.FeedSheet.{FeedSheet}
use Rattle.sheet.specs.Calls.{refused}
use Rattle.sheet.specs.Accepted.{sheet_with}

-- the sheet whose numbers these are
abbrev pub sheet_in : FeedSheet → Sheet
sheet_in f = sheet_with f.slots f.blowers f.wake f.rations f.numbers

-- number 0, line 0, and these numbers
abbrev pub sheet_reading : FeedSheet → Reading
sheet_reading f =
    record {
      number = 0;
      line = 0;
      slots = f.slots;
      blowers = f.blowers;
      wake = f.wake;
      rations = f.rations;
      numbers = f.numbers;
    }

abbrev pub as_reading : Result FeedSheet Refusal → Reading
as_reading (Ok f) = sheet_reading f
as_reading (Err r) = refused r

-- the length of what was written, or the refusal, as an answer
abbrev pub as_written : Result ℕ Refusal → Written
as_written (Ok n) = record { number = 0; line = 0; length = n }
as_written (Err r) = record { number = r.number; line = r.line; length = 0 }
