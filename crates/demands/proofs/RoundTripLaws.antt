-- Sheets written and read again, by the calls. Assumes nothing.
use Rattle.std.specs.Prelude.{◌≡◌, refl, true, false, List, [], map, ℕ, suc, ◌*◌, ◌≤◌, ltb, length, take}
use Rattle.std.proofs.Common.{sym, ap, ap₂, ◌∙◌, subst, arith, eq-eqb, le-ltb}
use Rattle.std.proofs.lemmas.List.{length-map}
use Rattle.sheet.specs.declared.Reading.{Reading}
use Rattle.checks.specs.Refusals.{short_buffer}
use Rattle.line.specs.Layout.{line_bytes, fields}
use Rattle.checks.specs.Sheet.{Job, Sheet, sheet_of, write_sheet, numbers_of, jobs_of, sheet_from}
use Rattle.checks.specs.Checks.{fault, first_refusal, faults}
use Rattle.sheet.specs.Calls.{accepted, reading_of, write_refusal, write_refusal_for, written_of, buffer_after}
use Rattle.common.specs.Buffers.{over}
use Rattle.checks.specs.FaultLaws.{append_nil_parts, numbered_value_faults}
use Rattle.sheet.proofs.CallLaws.{reading_of_accepted, rations_read_accepted}
use Rattle.common.specs.BufferLaws.{take_over}
use Rattle.checks.specs.NumbersLaws.{jobs_of_numbers_of}
use Rattle.checks.specs.SheetLaws.{length_write_sheet}
use Rattle.checks.specs.WellFormedLaws.{well_formed_faults, value_faults_well_formed}
use Rattle.sheet.proofs.Theorems.{read_written, written_read, read_written_again, written_read_again}
use Rattle.records.specs.declared.Ration.{Ration}
use Rattle.records.specs.Records.{job_of, record_sheet, record_faults}
use Rattle.demands.specs.Answers.{ValuesRead}
use Rattle.demands.proofs.AnswerLaws.{numbered_one}

-- a sheet that is accepted, and its values
pub values_read : (b : List ℕ) → faults b ≡ [] → ValuesRead (sheet_of b) (reading_of b)
unfolding accepted
values_read b f =
    let e = reading_of_accepted b f in
    record {
      number = ap (λ (x : Reading). x.number) e;
      slots = ap (λ (x : Reading). x.slots) e;
      blowers = ap (λ (x : Reading). x.blowers) e;
      wake = ap (λ (x : Reading). x.wake) e;
      rations = ap (λ (x : Reading). x.rations) e;
      numbers = ap (λ (x : Reading). take (fields * x.rations) x.numbers) e ∙ rations_read_accepted (sheet_of b);
    }

pub read_again : (b out : List ℕ) → faults b ≡ [] → length b ≤ length out → let v = reading_of b in let numbers = take (fields * v.rations) v.numbers in
    let s = sheet_from v.slots v.blowers v.wake numbers in let r = write_refusal s v.rations numbers (length out) in
    ((written_of r s).number ≡ 0) × ((written_of r s).length ≡ length b) × (buffer_after r s out ≡ over b out)
unfolding accepted
read_again b out e l =
    let w = read_written_again b out (ap (λ (x : Reading). x.number) (reading_of_accepted b e)) l in
    (ap (λ x. x.number) w.answer, ap (λ x. x.length) w.answer, w.buffer)

-- an accepted sheet that is read, and written again from records with the numbers read
pub rations_read_again : (b out : List ℕ) (rations : List Ration) → faults b ≡ [] → length b ≤ length out → let v = reading_of b in
    let s = record_sheet v.slots v.blowers v.wake rations in let r = write_refusal_for (record_faults s) s (length out) in
    numbers_of s.jobs ≡ take (fields * v.rations) v.numbers
    → ((written_of r s).number ≡ 0) × ((written_of r s).length ≡ length b) × (buffer_after r s out ≡ over b out)
unfolding record_sheet record_faults write_refusal_for first_refusal accepted written_of buffer_after
rations_read_again b out rations f l h = subst Again (sym same_sheet) whole
  where
    Again : Sheet → Type 0
    Again s =
        let r = write_refusal_for (record_faults s) s (length out) in ((written_of r s).number ≡ 0) × ((written_of r s).length ≡ length b) × (buffer_after r s out ≡ over b out)

    e : reading_of b ≡ accepted (sheet_of b)
    e = reading_of_accepted b f

    jobs : map job_of rations ≡ (sheet_of b).jobs
    jobs =
        sym (jobs_of_numbers_of (map job_of rations))
        ∙ ap jobs_of (h ∙ ap (λ (x : Reading). take (fields * x.rations) x.numbers) e ∙ rations_read_accepted (sheet_of b))
        ∙ jobs_of_numbers_of (sheet_of b).jobs

    same_sheet : record_sheet (reading_of b).slots (reading_of b).blowers (reading_of b).wake rations ≡ sheet_of b
    same_sheet =
        ap₂ (λ (x : Reading) (js : List Job). record { slots = x.slots; blowers = x.blowers; wake = x.wake; jobs = js }) e jobs

    w : write_sheet (sheet_of b) ≡ b
    w = read_written b f

    none : record_faults (sheet_of b) ≡ []
    none = value_faults_well_formed b (well_formed_faults b f)

    room : ltb (length out) (line_bytes * suc (length (sheet_of b).jobs)) ≡ false
    room = le-ltb (length out) (line_bytes * suc (length (sheet_of b).jobs)) (omega (arith, l, ap length w, length_write_sheet (sheet_of b)))

    whole : Again (sheet_of b)
    whole = rw (none, room) (refl, ap length w, ap (λ x. over x out) w)

pub values_again : (slots blowers wake n : ℕ) (numbers out : List ℕ) → let s = sheet_from slots blowers wake numbers in
    let r = write_refusal s n numbers (length out) in let v = reading_of (take (written_of r s).length (buffer_after r s out)) in
    (written_of r s).number ≡ 0
    → (v.number ≡ 0) × (v.slots ≡ slots) × (v.blowers ≡ blowers) × (v.wake ≡ wake) × (v.rations ≡ n) × (take (fields * n) v.numbers ≡ numbers)
unfolding accepted sheet_from written_of
values_again slots blowers wake n numbers out z =
    let w = written_read_again slots blowers wake n numbers out z in
    let e = w.0 in (
      ap (λ (x : Reading). x.number) e,
      ap (λ (x : Reading). x.slots) e,
      ap (λ (x : Reading). x.blowers) e,
      ap (λ (x : Reading). x.wake) e,
      ap (λ (x : Reading). x.rations) e ∙ w.1,
      ap₂ (λ (k : ℕ) (x : Reading). take (fields * k) x.numbers) (sym w.1) e ∙ w.2,
    )

-- a call on records that writes has accepted its values
accepted_values : (s : Sheet) (size : ℕ) → (write_refusal_for (record_faults s) s size).number ≡ 0 → record_faults s ≡ []
unfolding write_refusal_for record_faults
accepted_values s size z =
    let own = record_faults s in
    let need = line_bytes * suc (length s.jobs) in
    (append_nil_parts own (fault short_buffer 0 (ltb size need))
    (numbered_one own (numbered_value_faults s (length s.jobs) true) 10 (ltb size need) (omega arith) z)).0

pub rations_again : (slots blowers wake : ℕ) (rations : List Ration) (out : List ℕ) → let s = record_sheet slots blowers wake rations in
    let r = write_refusal_for (record_faults s) s (length out) in let v = reading_of (take (written_of r s).length (buffer_after r s out)) in
    (written_of r s).number ≡ 0
    → (v.number ≡ 0) × (v.slots ≡ slots) × (v.blowers ≡ blowers) × (v.wake ≡ wake) × (v.rations ≡ length rations)
    × (take (fields * length rations) v.numbers ≡ numbers_of s.jobs)
unfolding accepted record_sheet record_faults written_of buffer_after
rations_again slots blowers wake rations out z =
    let s = record_sheet slots blowers wake rations in
    let r = write_refusal_for (record_faults s) s (length out) in
    let e : reading_of (take (written_of r s).length (buffer_after r s out)) ≡ accepted s =
    rw (eq-eqb r.number 0 z) (ap reading_of (take_over (write_sheet s) out) ∙ written_read s (accepted_values s (length out) z)) in
    let n : length s.jobs ≡ length rations = length-map rations job_of in (
      ap (λ (x : Reading). x.number) e,
      ap (λ (x : Reading). x.slots) e,
      ap (λ (x : Reading). x.blowers) e,
      ap (λ (x : Reading). x.wake) e,
      ap (λ (x : Reading). x.rations) e ∙ n,
      ap₂ (λ (k : ℕ) (x : Reading). take (fields * k) x.numbers) (sym n) e ∙ rations_read_accepted s,
    )
