-- The sheet layer's theorems, about the definitions that the calls' promises are equations with. Assumes nothing.
use Rattle.std.specs.Prelude.{◌≡◌, true, List, [], ℕ, ◌≤◌, ◌<◌, length, get_or, take}
use Rattle.std.proofs.Common.{sym, ap, ap₂, subst, subst₂, ◌∙◌, arith, eq-eqb}
use Rattle.common.specs.Buffers.{over}
use Rattle.common.specs.BufferLaws.{take_over}
use Rattle.checks.specs.declared.Refusal.{Refusal}
use Rattle.sheet.specs.declared.Reading.{Reading}
use Rattle.checks.specs.Sheet.{Job, Sheet, line_count, sheet_of, write_sheet, sheet_from}
use Rattle.checks.specs.Checks.{first_refusal, length_faults, value_faults, faults}
use Rattle.sheet.specs.Calls.{accepted, reading_of, write_refusal, written_of, buffer_after}
use Rattle.checks.specs.SheetLaws.{sheet_of_write_sheet, length_write_sheet}
use Rattle.checks.specs.RangeLaws.{in_range_value_faults, fits_in_range, meals_follow}
use Rattle.checks.specs.WellFormedLaws.{length_faults_whole, whole_length_faults, faults_well_formed, well_formed_faults, well_formed_write_sheet, write_sheet_well_formed, value_faults_well_formed}
use Rattle.checks.specs.NumbersLaws.{length_jobs_of, numbers_of_jobs_of}
use Rattle.sheet.proofs.FirstRefusalLaws.{first_faults}
use Rattle.sheet.proofs.WriteSteps.{write_accepted}
use Rattle.sheet.proofs.CallLaws.{reading_of_accepted, faults_reading_of, rations_read, rations_read_accepted, sheet_read, sheet_read_accepted, refusal_again, refusal_again_accepted}

-- A sheet written from values that are all in range is accepted, ..
pub written_accepted : (s : Sheet) → value_faults s (length s.jobs) true ≡ [] → faults (write_sheet s) ≡ []
written_accepted s e = faults_well_formed (write_sheet s) (well_formed_write_sheet s (in_range_value_faults s (length s.jobs) true e))

-- .. and read back to the same values.
pub written_read : (s : Sheet) → value_faults s (length s.jobs) true ≡ [] → reading_of (write_sheet s) ≡ accepted s
written_read s e =
    reading_of_accepted (write_sheet s) (written_accepted s e)
    ∙ ap accepted (sheet_of_write_sheet s (fits_in_range s (in_range_value_faults s (length s.jobs) true e)))

-- Accepted bytes are the bytes written from the values read from them.
pub read_written : (b : List ℕ) → faults b ≡ [] → write_sheet (sheet_of b) ≡ b
read_written b e = write_sheet_well_formed b (well_formed_faults b e)

-- a reading's numbers, handed to the writer with a buffer `old`, give number 0, the length of b, and b at the buffer's front; its bytes after b keep their values
pub record WrittenAgain (r : Reading) (b old : List ℕ) : Type 0 where
  pub answer : written_of (refusal_again r (length old)) (sheet_read r) ≡ record { number = 0; line = 0; length = length b }
  pub buffer : buffer_after (refusal_again r (length old)) (sheet_read r) old ≡ over b old

accepted_again : (s : Sheet) (old : List ℕ) → value_faults s (length s.jobs) true ≡ [] → length (write_sheet s) ≤ length old → WrittenAgain (accepted s) (write_sheet s) old
unfolding written_of buffer_after
accepted_again s old e h =
    let f = refusal_again_accepted s (length old) e (omega (arith, length_write_sheet s)) in
    record {
      answer = ap₂ written_of f (sheet_read_accepted s);
      buffer = ap₂ (λ (x : Refusal) (y : Sheet). buffer_after x y old) f (sheet_read_accepted s);
    }

-- The same of the calls: accepted bytes, read and written again into a buffer that can hold them, are those bytes.
-- (`sheet_read` and `refusal_again`, of CallLaws, are the writer's definitions at a reading's numbers.)
pub read_written_again : (b old : List ℕ) → (reading_of b).number ≡ 0 → length b ≤ length old → WrittenAgain (reading_of b) b old
read_written_again b old z h =
    let e = faults_reading_of b z in
    let v = value_faults_well_formed b (well_formed_faults b e) in
    subst₂
    (λ (r : Reading) (x : List ℕ). WrittenAgain r x old)
    (sym (reading_of_accepted b e))
    (read_written b e)
    (accepted_again (sheet_of b) old v (rw (read_written b e) h))

-- And the other way round: the values that the writer accepted, read again from what it wrote, are the same values,
-- those of n rations.
pub written_read_again : (slots blowers wake n : ℕ) (numbers old : List ℕ)
    → let s = sheet_from slots blowers wake numbers in let r = write_refusal s n numbers (length old) in
    r.number ≡ 0
    → (reading_of (take (written_of r s).length (buffer_after r s old)) ≡ accepted s) × ((accepted s).rations ≡ n) × (rations_read (accepted s) ≡ numbers)
unfolding sheet_from written_of buffer_after accepted
written_read_again slots blowers wake n numbers old e =
    let s = sheet_from slots blowers wake numbers in
    let a = write_accepted s n numbers (length old) e in
    let m = sym (length_jobs_of n numbers (sym a.agrees)) in (
      rw (eq-eqb (write_refusal s n numbers (length old)).number 0 e)
          (ap reading_of (take_over (write_sheet s) old) ∙ written_read s (subst (λ k. value_faults s k true ≡ []) m a.values)),
      sym m,
      rations_read_accepted s ∙ numbers_of_jobs_of n numbers (sym a.agrees),
    )

-- The longest sheet that passes check 1 has 65,500 bytes, 2,620 lines.
pub longest_sheet : (b : List ℕ) → length_faults b ≡ [] → length b ≤ 65500
longest_sheet b e = let w = whole_length_faults b e in omega (arith, w.0.le, w.1)

pub longest_sheet_passes : (b : List ℕ) → length b ≡ 65500 → length_faults b ≡ []
unfolding line_count
longest_sheet_passes b e = length_faults_whole b (record { ge = omega arith; le = omega arith }) (omega arith)

-- The number of a refusal of a sheet's bytes is at most 13, and the line that it names at most 2,620.
pub refusal_most : (b : List ℕ) → ((first_refusal (faults b)).number ≤ 13) × ((first_refusal (faults b)).line ≤ 2620)
refusal_most b =
    first_faults (λ r. (r.number ≤ 13) × (r.line ≤ 2620)) (omega arith, omega arith) 2620 (λ n line m k l. (m, l)) b (omega arith)

-- The meals of one tank follow each other: the window of a later one begins after the last slot of an earlier one, so that no slot is in two of them.
pub meals_apart : (s : Sheet) → value_faults s (length s.jobs) true ≡ [] → (i k : ℕ) → i < k → k < length s.jobs
    → (d : Job) → (get_or s.jobs i d).tank ≡ (get_or s.jobs k d).tank → (get_or s.jobs i d).deadline < (get_or s.jobs k d).release
meals_apart s e i k l m d = meals_follow 1 s.slots 0 0 s.jobs (in_range_value_faults s (length s.jobs) true e).jobs i k l m d
