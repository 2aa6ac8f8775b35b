-- What `read_flat` and `read_rations` have to show: the records taken make what all make, because a list with more
-- records than a sheet may have is refused by 3 to 6, whatever stands past the records taken. Assumes nothing.
use Rattle.std.specs.Prelude.{◌≡◌, refl, Bool, true, false, List, ◌++◌, map, ℕ, suc, ◌*◌, ◌<◌, ltb, length, take}
use Rattle.std.proofs.Common.{sym, ap, ◌∙◌, arith, length-take, take_all, length-take-le}
use Rattle.std.proofs.Math.Path.{ap₂}
use Rattle.std.proofs.lemmas.List.{length-map}
use borrow.Author.Tests.{eq-eqb, lt-ltb, ltb-true, ltb-false}
use Rattle.line.specs.Layout.{fields}
use Rattle.checks.specs.declared.Refusal.{Refusal}
use Rattle.sheet.specs.declared.Reading.{Reading}
use Rattle.checks.specs.Limits.{max_rations}
use Rattle.checks.specs.Sheet.{Sheet, sheet_from}
use Rattle.checks.specs.Checks.{first_refusal, head_faults, jobs_faults, value_faults, flat_faults}
use Rattle.sheet.specs.Calls.{refused, reading_from}
use Rattle.checks.specs.NumbersLaws.{length_jobs_of}
use Rattle.checks.specs.FaultLaws.{numbered_head_faults}
use Rattle.checks.specs.RangeLaws.{in_range_head_faults}
use Rattle.checks.specs.Parts.{head}
use Rattle.checks.specs.CheckSteps.{first_left}
use Rattle.sheet.proofs.ReadSteps.{from_refused}
use Rattle.sheet.specs.OwnChecks.{ReadFrom, SomeReading}
use Rattle.sheet.proofs.OwnCheckLaws.{values_checked}
use Rattle.records.specs.declared.Ration.{Ration}
use Rattle.records.specs.declared.Flat.{Flat}
use Rattle.records.specs.Records.{job_of, record_faults, record_sheet, taken_most}
use Rattle.records.specs.Flat.{flat_of, flat_sheet, IsFlat}
use Rattle.records.specs.FlatLaws.{flat_sheet_flat_of}

-- what is read of a sheet whose rations are counted
abbrev pub reading_for : Sheet → Reading
reading_for s = reading_from (record_faults s) s

-- ---- over flat numbers

module _ (slots blowers wake : ℕ) (f : Flat) (h : IsFlat f) where
  abbrev numbers : List ℕ
  numbers = take (fields * f.count) f.numbers

  pub length_numbers : length numbers ≡ fields * f.count
  length_numbers = length-take-le (fields * f.count) f.numbers (omega (arith, h.few, h.long))

  -- as many as are counted, so that 6 finds no disagreement
  pub reading_flat : let s = sheet_from slots blowers wake numbers in reading_from (flat_faults s f.count numbers) s
      ≡ reading_for (flat_sheet slots blowers wake f)
  unfolding record_faults flat_sheet sheet_from
  reading_flat =
      let s = sheet_from slots blowers wake numbers in
      ap₂ (λ (n : ℕ) (agrees : Bool). reading_from (value_faults s n agrees) s)
      (sym (length_jobs_of f.count numbers length_numbers))
      (eq-eqb (fields * f.count) (length numbers) (sym length_numbers))

-- ---- over records

module _ (slots blowers wake : ℕ) where
  abbrev sheet : List Ration → Sheet
  sheet rs = record_sheet slots blowers wake rs

  -- the checks of the head line, of more records than a sheet may have: 6 refuses what 3 to 5 pass
  abbrev crowded : List Refusal
  crowded = head_faults (head slots blowers wake) (suc max_rations) true

  refuses : (first_refusal crowded).number ≡ 0 → ⊥
  refuses z =
      let n = (in_range_head_faults (head slots blowers wake) (suc max_rations) true
      (numbered_head_faults (head slots blowers wake) (suc max_rations) true z)).rations in
      omega (arith, n)

  crowded_faults : (rs : List Ration) → max_rations < length rs
      → crowded ++ jobs_faults slots 2 0 0 (map job_of rs) ≡ record_faults (sheet rs)
  unfolding record_faults value_faults head_faults record_sheet
  crowded_faults rs h = rw (length-map rs job_of, lt-ltb max_rations (length rs) h)

  reading_crowded : (rs : List Ration) → max_rations < length rs → refused (first_refusal crowded) ≡ reading_for (sheet rs)
  reading_crowded rs h =
      from_refused (record_faults (sheet rs)) (sheet rs) (first_refusal crowded)
      (first_left crowded (jobs_faults slots 2 0 0 (map job_of rs)) refuses ∙ ap first_refusal (crowded_faults rs h))
      refuses

  reading_taken : (rs : List Ration) → reading_for (sheet (take taken_most rs)) ≡ reading_for (sheet rs)
  reading_taken rs = go (ltb taken_most (length rs)) refl
    where
      go : (t : Bool) → ltb taken_most (length rs) ≡ t → reading_for (sheet (take taken_most rs)) ≡ reading_for (sheet rs)
      go true e =
          let h : taken_most < length rs = ltb-true taken_most (length rs) e in
          let k : max_rations < length rs = omega arith in
          let m : max_rations < length (take taken_most rs) = omega (arith, length-take taken_most rs) in
          sym (reading_crowded (take taken_most rs) m) ∙ reading_crowded rs k
      go false e = ap (λ l. reading_for (sheet l)) (take_all taken_most rs (ltb-false taken_most (length rs) e))

  pub reading_records : (rs : List Ration)
      → reading_for (flat_sheet slots blowers wake (flat_of rs)) ≡ reading_for (sheet rs)
  reading_records rs = ap reading_for (flat_sheet_flat_of slots blowers wake rs) ∙ reading_taken rs

-- ---- what the functions that take the reading ask of it

pub records_read : (s : Sheet) → ReadFrom (record_faults s) s (reading_for s)
unfolding record_faults
records_read s = record { checks = values_checked s; is = refl }

pub some_records : (s : Sheet) → SomeReading (reading_for s)
some_records s = record { own = record_faults s; sheet = s; read = records_read s }
