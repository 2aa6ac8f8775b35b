-- What each public call answers, and what it leaves in a lent buffer. Definitions only.
use Rattle.std.specs.Prelude.{cond, List, ℕ, suc, ◌*◌, ltb, eqb, length, replicate}
use Rattle.common.specs.Buffers.{over, padded}
use Rattle.line.specs.Layout.{line_bytes, fields}
use Rattle.checks.specs.declared.Refusal.{Refusal}
use Rattle.sheet.specs.declared.Reading.{Reading}
use Rattle.sheet.specs.declared.Written.{Written}
use Rattle.checks.specs.Limits.{max_rations}
use Rattle.checks.specs.Sheet.{Sheet, sheet_of, write_sheet, numbers_of}
use Rattle.checks.specs.Checks.{first_refusal, faults, flat_faults}
use Rattle.checks.specs.CallChecks.{buffer_checks}

-- read -----------------------------------------------------------------------

-- number 0, line 0, and the sheet's numbers
unfoldable pub accepted : Sheet → Reading
accepted s =
    record {
      number = 0;
      line = 0;
      slots = s.slots;
      blowers = s.blowers;
      wake = s.wake;
      rations = length s.jobs;
      numbers = padded (fields * max_rations) (numbers_of s.jobs);
    }

-- the refusal's number and line, and zeros
unfoldable pub refused : Refusal → Reading
refused r =
    record {
      number = r.number;
      line = r.line;
      slots = 0;
      blowers = 0;
      wake = 0;
      rations = 0;
      numbers = replicate (fields * max_rations) 0;
    }

-- what is read where these checks are made of this sheet
unfoldable pub reading_from : List Refusal → Sheet → Reading
reading_from own s = cond (eqb (first_refusal own).number 0) (accepted s) (refused (first_refusal own))

-- of a sheet's bytes
unfoldable pub reading_of : List ℕ → Reading
reading_of b = reading_from (faults b) (sheet_of b)

-- write ----------------------------------------------------------------------

-- the values of flat numbers, then 10, the buffer's size
unfoldable pub write_refusal : Sheet → ℕ → List ℕ → ℕ → Refusal
write_refusal s n numbers size = first_refusal (buffer_checks (flat_faults s n numbers) (ltb size (line_bytes * suc n)))

-- the checks of the sheet alone, then 10
unfoldable pub write_refusal_for : List Refusal → Sheet → ℕ → Refusal
write_refusal_for own s size = first_refusal (buffer_checks own (ltb size (line_bytes * suc (length s.jobs))))

unfoldable pub written_of : Refusal → Sheet → Written
written_of r s =
    record { number = r.number; line = r.line; length = cond (eqb r.number 0) (length (write_sheet s)) 0 }

unfoldable pub buffer_after : Refusal → Sheet → List ℕ → List ℕ
buffer_after r s old = cond (eqb r.number 0) (over (write_sheet s) old) old
