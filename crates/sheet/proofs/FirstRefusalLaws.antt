-- What holds of the first refusal of a sheet, whatever it is: it is enough that it holds of every refusal that a check
-- of the sheet alone can give. Number 0, line 0 stands for none. Assumes nothing.
use Rattle.std.specs.Prelude.{◌≡◌, Bool, ◌||◌, ltb, eqb, length}
use Rattle.std.proofs.Math.Path.{refl}
use Rattle.std.proofs.Common.{ap, arith}
use Rattle.std.proofs.Math.Bool.{true, false, not}
use mathlib.Core.List.{List, [], ◌∷◌, ◌++◌}
use Prim.Native.Nat.{ℕ, suc, ◌+◌, ◌-◌, ◌%◌, ◌≤◌}
use Rattle.line.specs.Layout.{line_bytes}
use Rattle.line.specs.Line.{value_at}
use Rattle.checks.specs.declared.Refusal.{Refusal}
use Rattle.checks.specs.Limits.{max_bytes, max_slots, max_blowers, max_wake, max_rations}
use Rattle.checks.specs.Refusals.{bad_length, bad_form, bad_slots, bad_blowers, bad_wake, bad_rations, bad_tank, bad_window, bad_volume, no_placing, bad_meal}
use Rattle.checks.specs.Sheet.{Job, Sheet, line_count, line_at, sheet_of}
use Rattle.checks.specs.Checks.{fault, first_refusal, outside, first_faulty, tank_fault, window_fault, volume_fault, meal_fault, length_faults, form_faults, head_faults, job_faults, jobs_faults, value_faults, faults}
use Rattle.checks.specs.SheetLaws.{length_jobs_sheet_of}
use Rattle.checks.specs.WellFormedLaws.{whole_length_faults}
use Rattle.sheet.proofs.ReadSteps.{first_faulty_le}

module _ (P : Refusal → Type 0) (none : P (record { number = 0; line = 0 })) where
  pub first_fault : (n line : ℕ) (x : Bool) → P (record { number = n; line = line }) → P (first_refusal (fault n line x))
  unfolding first_refusal
  first_fault n line true p = p
  first_fault n line false p = none

  pub first_append : (xs ys : List Refusal) → P (first_refusal xs) → P (first_refusal ys) → P (first_refusal (xs ++ ys))
  unfolding first_refusal
  first_append [] ys p q = q
  first_append (x ∷ xs) ys p q = p

  -- of a check of the sheet alone, which names no line after the last
  module _ (last : ℕ) (own : (n line : ℕ) → n ≤ 13 → (n ≡ no_placing → ⊥) → line ≤ last → P (record { number = n; line = line })) where
    first_head : 1 ≤ last → (s : Sheet) (n : ℕ) (agrees : Bool) → P (first_refusal (head_faults s n agrees))
    unfolding head_faults
    first_head l s n agrees =
        first_append _ _ (first_fault bad_slots 1 (outside 1 max_slots s.slots) (own _ _ (omega arith) (λ e. omega arith) l))
        (first_append _ _ (first_fault bad_blowers 1 (outside 1 max_blowers s.blowers) (own _ _ (omega arith) (λ e. omega arith) l))
        (first_append _ _ (first_fault bad_wake 1 (ltb max_wake s.wake) (own _ _ (omega arith) (λ e. omega arith) l))
        (first_fault bad_rations 1 (ltb max_rations n || not agrees) (own _ _ (omega arith) (λ e. omega arith) l))))

    first_job : (slots line before until : ℕ) (j : Job) → line ≤ last → P (first_refusal (job_faults slots line before until j))
    unfolding job_faults
    first_job slots line before until j l =
        first_append _ _ (first_fault bad_tank line (tank_fault before j.tank) (own _ _ (omega arith) (λ e. omega arith) l))
        (first_append _ _ (first_fault bad_window line (window_fault slots j.release j.deadline) (own _ _ (omega arith) (λ e. omega arith) l))
        (first_append _ _ (first_fault bad_volume line (volume_fault j.release j.deadline j.volume) (own _ _ (omega arith) (λ e. omega arith) l))
        (first_fault bad_meal line (meal_fault before until j.tank j.release) (own _ _ (omega arith) (λ e. omega arith) l))))

    first_jobs_lem : (slots line before until : ℕ) (js : List Job) → line + length js ≤ suc last
        → P (first_refusal (jobs_faults slots line before until js))
    unfolding jobs_faults first_refusal
    first_jobs_lem slots line before until [] l = none
    first_jobs_lem slots line before until (j ∷ js) l =
        first_append (job_faults slots line before until j) (jobs_faults slots (suc line) j.tank j.deadline js)
        (first_job slots line before until j (omega arith))
        (first_jobs_lem slots (suc line) j.tank j.deadline js (omega arith))

    pub first_values : (s : Sheet) (n : ℕ) (agrees : Bool) → 1 + length s.jobs ≤ last → P (first_refusal (value_faults s n agrees))
    unfolding value_faults
    first_values s n agrees l =
        first_append _ _ (first_head (omega arith) s n agrees) (first_jobs_lem s.slots 2 0 0 s.jobs (omega arith))

    -- the longest sheet has 2,620 lines
    pub first_faults : (b : List ℕ) → 2620 ≤ last → P (first_refusal (faults b))
    unfolding faults length_faults form_faults first_refusal
    first_faults b l = go (outside line_bytes max_bytes (length b) || not (eqb (length b % line_bytes) 0)) refl
      where
        values : List Refusal
        values = let n : ℕ = value_at (line_at b 0) 3 in value_faults (sheet_of b) n (eqb n (line_count b - 1))

        go : (t : Bool) → (outside line_bytes max_bytes (length b) || not (eqb (length b % line_bytes) 0)) ≡ t
            → P (first_refusal (fault bad_length 0 t ++ (form_faults b ++ values)))
        go true e = own bad_length 0 (omega arith) (λ e. omega arith) (omega arith)
        go false e =
            let w = whole_length_faults b (ap (fault bad_length 0) e) in
            let n : ℕ = first_faulty b 0 (line_count b) in
            first_append (form_faults b) values
            (first_fault bad_form n (ltb 0 n)
            (own bad_form n (omega arith) (λ e. omega arith) (omega (arith, w.0, w.1, first_faulty_le b 0 (line_count b)))))
            (first_values (sheet_of b) _ _ (omega (arith, w.0, w.1, length_jobs_sheet_of b)))
