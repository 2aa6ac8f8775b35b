-- A sheet is well-formed, as the checks 1 to 9 and 13 have it, exactly where they find no fault. Assumes nothing.
use Rattle.std.specs.Prelude.{◌≡◌, true, not, List, [], ℕ, suc, ◌-◌, ◌*◌, ◌%◌, ◌≤◌, eqb, length}
use Rattle.std.proofs.Common.{sym, ap, ap₂, subst, subst₂, ◌∙◌, arith, eqb-true, eq-eqb, ltb-false}
use Rattle.std.proofs.lemmas.Bool.{not-false}
use Rattle.common.specs.Tests.{or_false}
use Rattle.line.specs.Layout.{line_bytes}
use Rattle.line.specs.Line.{value_at}
use Rattle.checks.specs.Limits.{max_bytes}
use Rattle.checks.specs.Refusals.{bad_length, bad_form}
use Rattle.checks.specs.Sheet.{Sheet, line_count, line_at, sheet_of, write_sheet}
use Rattle.checks.specs.Checks.{outside, length_faults, first_faulty, form_faults, value_faults, faults}
use Rattle.checks.specs.SheetLaws.{length_jobs_sheet_of, length_write_sheet, line_count_write_sheet, sheet_of_write_sheet, rations_write_sheet, faulty_line_write_sheet, write_sheet_sheet_of}
use Rattle.checks.specs.FirstFaultyLaws.{NoneFaulty, first_faulty_none, none_first_faulty}
use Rattle.checks.specs.FaultLaws.{false_fault, append_nil_nil, append_nil_parts}
use Rattle.checks.specs.RangeLaws.{InRange, in_range_outside, outside_in_range, ValuesInRange, in_range_value_faults, value_faults_in_range, fits_in_range}

pub record WellFormed (b : List ℕ) : Type 0 where
  pub size : InRange line_bytes max_bytes (length b)
  pub whole : length b ≡ line_bytes * line_count b
  pub formed : NoneFaulty b 0 (line_count b)
  pub announced : value_at (line_at b 0) 3 ≡ length (sheet_of b).jobs
  pub values : ValuesInRange 1 (sheet_of b) (length (sheet_of b).jobs) true

-- check 1
pub length_faults_whole : (b : List ℕ) → InRange line_bytes max_bytes (length b) → length b ≡ line_bytes * line_count b → length_faults b ≡ []
unfolding length_faults line_count
length_faults_whole b h e = rw (outside_in_range line_bytes max_bytes (length b) h, eq-eqb (length b % line_bytes) 0 (omega arith))

pub whole_length_faults : (b : List ℕ) → length_faults b ≡ [] → InRange line_bytes max_bytes (length b) × (length b ≡ line_bytes * line_count b)
unfolding length_faults line_count
whole_length_faults b e =
    let h = or_false (outside line_bytes max_bytes (length b)) (not (eqb (length b % line_bytes) 0)) (false_fault bad_length 0 _ e) in
    let z : length b % line_bytes ≡ 0 = eqb-true (length b % line_bytes) 0 (not-false _ h.1) in
    (in_range_outside line_bytes max_bytes (length b) h.0, omega arith)

-- check 2
pub form_faults_none : (b : List ℕ) → NoneFaulty b 0 (line_count b) → form_faults b ≡ []
unfolding form_faults
form_faults_none b h = rw (first_faulty_none b 0 (line_count b) (λ k p q. h k p (omega arith)))

pub none_form_faults : (b : List ℕ) → form_faults b ≡ [] → NoneFaulty b 0 (line_count b)
unfolding form_faults
none_form_faults b e =
    let z : first_faulty b 0 (line_count b) ≤ 0 = ltb-false 0 (first_faulty b 0 (line_count b)) (false_fault bad_form (first_faulty b 0 (line_count b)) _ e) in
    λ k p q. none_first_faulty b 0 (line_count b) (omega arith) k p (omega arith)

-- checks 1 to 9 and 13
pub value_faults_well_formed : (b : List ℕ) → WellFormed b → value_faults (sheet_of b) (length (sheet_of b).jobs) true ≡ []
value_faults_well_formed b h = value_faults_in_range (sheet_of b) (length (sheet_of b).jobs) true h.values

pub faults_well_formed : (b : List ℕ) → WellFormed b → faults b ≡ []
unfolding faults
faults_well_formed b h =
    let a : eqb (value_at (line_at b 0) 3) (line_count b - 1) ≡ true = eq-eqb (value_at (line_at b 0) 3) (line_count b - 1) (h.announced ∙ length_jobs_sheet_of b) in
    append_nil_nil
    (length_faults_whole b h.size h.whole)
    (append_nil_nil (form_faults_none b h.formed) (ap₂ (value_faults (sheet_of b)) h.announced a ∙ value_faults_well_formed b h))

pub well_formed_faults : (b : List ℕ) → faults b ≡ [] → WellFormed b
unfolding faults
well_formed_faults b e =
    let n : ℕ = value_at (line_at b 0) 3 in
    let h₁ = append_nil_parts (length_faults b) _ e in
    let h₂ = append_nil_parts (form_faults b) _ h₁.1 in
    let w = whole_length_faults b h₁.0 in
    let v = in_range_value_faults (sheet_of b) n (eqb n (line_count b - 1)) h₂.1 in
    let a : n ≡ length (sheet_of b).jobs = eqb-true n (line_count b - 1) v.head.agree ∙ sym (length_jobs_sheet_of b) in
    record {
      size = w.0;
      whole = w.1;
      formed = none_form_faults b h₂.0;
      announced = a;
      values = subst₂ (ValuesInRange 1 (sheet_of b)) a v.head.agree v;
    }

-- A sheet written from values in range is well-formed.
pub well_formed_write_sheet : (s : Sheet) → ValuesInRange 1 s (length s.jobs) true → WellFormed (write_sheet s)
well_formed_write_sheet s h =
    let f = fits_in_range s h in
    let r = h.head.rations in
    let l = length_write_sheet s in
    let c = line_count_write_sheet s in
    let e : s ≡ sheet_of (write_sheet s) = sym (sheet_of_write_sheet s f) in
    record {
      size = record { ge = omega arith; le = omega arith };
      whole = omega arith;
      formed = λ k p q. faulty_line_write_sheet s k f q;
      announced = rations_write_sheet s f ∙ ap (λ (t : Sheet). length t.jobs) e;
      values = subst (λ (t : Sheet). ValuesInRange 1 t (length t.jobs) true) e h;
    }

-- A well-formed sheet is the one that is written for its numbers.
pub write_sheet_well_formed : (b : List ℕ) → WellFormed b → write_sheet (sheet_of b) ≡ b
write_sheet_well_formed b h =
    let c = length_jobs_sheet_of b in
    let z = h.size.ge in
    let w = h.whole in
    let n : suc (length (sheet_of b).jobs) ≡ line_count b = omega arith in
    write_sheet_sheet_of b (length (sheet_of b).jobs) (omega arith) (λ i l. h.formed i (omega arith) (omega arith)) h.announced
