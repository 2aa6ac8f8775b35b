-- What the calls answer where nothing is refused, and what the writer makes of a reading. Assumes nothing.
use Rattle.std.specs.Prelude.{◌≡◌, refl, Bool, true, false, cond, List, [], ℕ, suc, ◌*◌, ◌≤◌, eqb, length, take}
use Rattle.std.proofs.Common.{sym, ap, ap₂, ◌∙◌, take_at, eq-eqb, eqb-true, ne_eqb, le-ltb}
use Rattle.common.specs.Buffers.{padded}
use Rattle.line.specs.Layout.{fields, line_bytes}
use Rattle.checks.specs.declared.Refusal.{Refusal}
use Rattle.sheet.specs.declared.Reading.{Reading}
use Rattle.checks.specs.Refusals.{short_buffer}
use Rattle.checks.specs.Sheet.{Sheet, sheet_of, numbers_of, sheet_from}
use Rattle.checks.specs.Checks.{first_refusal, value_faults, faults}
use Rattle.sheet.specs.Calls.{accepted, refused, reading_from, reading_of, write_refusal, written_of, buffer_after}
use Rattle.checks.specs.NumbersLaws.{length_numbers_of, jobs_of_numbers_of}
use Rattle.checks.specs.FaultLaws.{fault_false, append_nil_nil, Numbered, numbered_faults}

-- read -----------------------------------------------------------------------

pub reading_from_accepted : (own : List Refusal) (s : Sheet) → own ≡ [] → reading_from own s ≡ accepted s
unfolding reading_from first_refusal
reading_from_accepted own s e = rw e

-- a reading with number 0 is that of a sheet without a fault
pub none_reading_from : (own : List Refusal) (s : Sheet) → Numbered own → (reading_from own s).number ≡ 0 → own ≡ []
unfolding reading_from accepted refused
none_reading_from own s numbered e = go (eqb (first_refusal own).number 0) refl e
  where
    go : (t : Bool) → eqb (first_refusal own).number 0 ≡ t
        → (cond t (accepted s) (refused (first_refusal own))).number ≡ 0 → own ≡ []
    go true q h = numbered (eqb-true (first_refusal own).number 0 q)
    go false q h = numbered h

-- of a sheet's bytes
pub reading_of_accepted : (b : List ℕ) → faults b ≡ [] → reading_of b ≡ accepted (sheet_of b)
unfolding reading_of
reading_of_accepted b e = reading_from_accepted (faults b) (sheet_of b) e

pub faults_reading_of : (b : List ℕ) → (reading_of b).number ≡ 0 → faults b ≡ []
unfolding reading_of
faults_reading_of b e = none_reading_from (faults b) (sheet_of b) (numbered_faults b) e

-- write ----------------------------------------------------------------------

-- the flat rations of a reading, without the zeros past them
abbrev pub rations_read : Reading → List ℕ
rations_read r = take (fields * r.rations) r.numbers

-- the sheet that the writer makes of a reading's numbers
abbrev pub sheet_read : Reading → Sheet
sheet_read r = sheet_from r.slots r.blowers r.wake (rations_read r)

pub rations_read_accepted : (s : Sheet) → rations_read (accepted s) ≡ numbers_of s.jobs
unfolding accepted padded
rations_read_accepted s = take_at (numbers_of s.jobs) _ (fields * length s.jobs) (length_numbers_of s.jobs)

pub sheet_read_accepted : (s : Sheet) → sheet_read (accepted s) ≡ s
unfolding sheet_from accepted
sheet_read_accepted s =
    ap (sheet_from s.slots s.blowers s.wake) (rations_read_accepted s)
    ∙ (λ k. record { slots = s.slots; blowers = s.blowers; wake = s.wake; jobs = jobs_of_numbers_of s.jobs k })

-- values without a fault and a buffer that is long enough are not refused
pub write_refusal_accepted : (s : Sheet) (size : ℕ) → value_faults s (length s.jobs) true ≡ [] → line_bytes * suc (length s.jobs) ≤ size
    → write_refusal s (length s.jobs) (numbers_of s.jobs) size ≡ record { number = 0; line = 0 }
unfolding write_refusal first_refusal
write_refusal_accepted s size e h =
    ap
    first_refusal
    (append_nil_nil
    (ap (value_faults s (length s.jobs)) (eq-eqb (fields * length s.jobs) (length (numbers_of s.jobs)) (sym (length_numbers_of s.jobs))) ∙ e)
    (fault_false short_buffer 0 (le-ltb size (line_bytes * suc (length s.jobs)) h)))

-- what the writer's checks give for a reading's numbers and a buffer of this size
abbrev pub refusal_again : Reading → ℕ → Refusal
refusal_again r size = write_refusal (sheet_read r) r.rations (rations_read r) size

pub refusal_again_accepted : (s : Sheet) (size : ℕ) → value_faults s (length s.jobs) true ≡ [] → line_bytes * suc (length s.jobs) ≤ size
    → refusal_again (accepted s) size ≡ record { number = 0; line = 0 }
unfolding accepted
refusal_again_accepted s size e h =
    ap₂ (λ (t : Sheet) (xs : List ℕ). write_refusal t (length s.jobs) xs size) (sheet_read_accepted s) (rations_read_accepted s)
    ∙ write_refusal_accepted s size e h

-- a refusal gives length 0, ..
pub written_of_refused : (r : Refusal) (s : Sheet) → (r.number ≡ 0 → ⊥) → (written_of r s).length ≡ 0
unfolding written_of
written_of_refused r s h = rw (ne_eqb r.number 0 h)

-- .. and changes no byte
pub buffer_after_refused : (r : Refusal) (s : Sheet) (old : List ℕ) → (r.number ≡ 0 → ⊥) → buffer_after r s old ≡ old
unfolding buffer_after
buffer_after_refused r s old h = rw (ne_eqb r.number 0 h)
