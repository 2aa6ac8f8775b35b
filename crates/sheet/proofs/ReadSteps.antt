-- How reading a sheet goes on: the form, and the answer. Assumes nothing.
use Rattle.std.specs.Prelude.{◌≡◌, Bool, true, false, ◌||◌, cond, List, [], ◌++◌, map, ℕ, zero, suc, ◌+◌, ◌-◌, ◌*◌, ◌%◌, ◌≤◌, ltb, eqb, take, drop}
use Rattle.std.proofs.Math.Path.{sym, ap}
use Rattle.std.proofs.Common.{◌∙◌, append_assoc, arith}
use Rattle.std.proofs.Math.Bool.{not}
use Rattle.std.proofs.Math.ListN.{length}
use borrow.Author.Tests.{eq-eqb, ne_eqb, eqb-true}
use Rattle.common.specs.Lists.{range}
use Rattle.common.specs.Buffers.{padded}
use Rattle.common.specs.FillLaws.{take_padded}
use Rattle.line.specs.Layout.{width, fields, line_bytes}
use Rattle.line.specs.Field.{parse, number_of}
use Rattle.line.specs.Line.{value_at, faulty_line}
use Rattle.checks.specs.declared.Refusal.{Refusal}
use Rattle.checks.specs.Limits.{max_bytes, max_rations}
use Rattle.checks.specs.Refusals.{bad_length, bad_form}
use Rattle.checks.specs.Sheet.{Sheet, line_count, line_at, job_at, sheet_of, numbers_of, jobs_of, numbers_to}
use Rattle.checks.specs.Checks.{first_refusal, outside, length_faults, first_faulty, form_faults, head_faults, jobs_faults, value_faults, faults}
use Rattle.sheet.specs.Calls.{accepted, refused, reading_from, reading_of}
use Rattle.checks.specs.NumbersLaws.{jobs_of_numbers_of, length_numbers_to}
use Rattle.checks.specs.SheetLaws.{length_jobs_sheet_of}
use Rattle.checks.specs.FaultLaws.{append_nil_parts, Numbered, numbered_fault, numbered_before, numbered_head_faults}
use Rattle.checks.specs.RangeLaws.{HeadInRange, in_range_head_faults}
use Rattle.checks.specs.WellFormedLaws.{whole_length_faults}
use Rattle.checks.specs.Parts.{head}
use Rattle.sheet.proofs.LineSteps.{value_place}
use Rattle.checks.specs.CheckSteps.{first_left, first_right}

-- ---- 1 and 2

pub first_faulty_le : (b : List ℕ) (i n : ℕ) → first_faulty b i n ≤ i + n
unfolding first_faulty
first_faulty_le b i zero = omega arith
first_faulty_le b i (suc n) = go (faulty_line (line_at b i)) (first_faulty_le b (suc i) n)
  where
    go : (t : Bool) → first_faulty b (suc i) n ≤ suc i + n → cond t (suc i) (first_faulty b (suc i) n) ≤ i + suc n
    go true h = omega arith
    go false h = omega arith

-- ---- the head line's numbers, as they are read

pub record HeadRead (b : List ℕ) (slots blowers wake rations : ℕ) : Type 0 where
  pub slots_is : slots ≡ value_at (line_at b 0) 0
  pub blowers_is : blowers ≡ value_at (line_at b 0) 1
  pub wake_is : wake ≡ value_at (line_at b 0) 2
  pub rations_is : rations ≡ value_at (line_at b 0) 3

pub head_read : (b : List ℕ) → line_bytes ≤ length b → {slots blowers wake rations : ℕ} → slots ≡ number_of (parse (take width (drop 0 b)))
    → blowers ≡ number_of (parse (take width (drop width b))) → wake ≡ number_of (parse (take width (drop (width * 2) b)))
    → rations ≡ number_of (parse (take width (drop (width * 3) b))) → HeadRead b slots blowers wake rations
head_read b l p q r t =
    record {
      slots_is = p ∙ value_place b 0 l 0 0 (omega arith) (omega arith);
      blowers_is = q ∙ value_place b 0 l 1 width (omega arith) (omega arith);
      wake_is = r ∙ value_place b 0 l 2 (width * 2) (omega arith) (omega arith);
      rations_is = t ∙ value_place b 0 l 3 (width * 3) (omega arith) (omega arith);
    }

-- ---- the answer

-- number and line of the first refusal decide the answer
pub from_refused : (own : List Refusal) (s : Sheet) (r : Refusal) → r ≡ first_refusal own → (r.number ≡ 0 → ⊥)
    → refused r ≡ reading_from own s
unfolding reading_from
from_refused own s r e n = rw (← e, ne_eqb r.number 0 n)

pub from_accepted : (own : List Refusal) (s : Sheet) → (first_refusal own).number ≡ 0 → accepted s ≡ reading_from own s
unfolding reading_from
from_accepted own s e = rw (eq-eqb (first_refusal own).number 0 e)

-- of a sheet's bytes
answer_refused : (b : List ℕ) (r : Refusal) → r ≡ first_refusal (faults b) → (r.number ≡ 0 → ⊥)
    → refused r ≡ reading_of b
unfolding reading_of
answer_refused b r e n = from_refused (faults b) (sheet_of b) r e n

answer_accepted : (b : List ℕ) → (first_refusal (faults b)).number ≡ 0 → accepted (sheet_of b) ≡ reading_of b
unfolding reading_of
answer_accepted b e = from_accepted (faults b) (sheet_of b) e

module _ (b : List ℕ) where
  numbered_form : Numbered (length_faults b ++ form_faults b)
  unfolding length_faults form_faults
  numbered_form =
      numbered_before bad_length 0 (outside line_bytes max_bytes (length b) || not (eqb (length b % line_bytes) 0))
      (omega arith)
      (numbered_fault bad_form (first_faulty b 0 (line_count b)) (ltb 0 (first_faulty b 0 (line_count b))) (omega arith))

  abbrev announced : ℕ
  announced = value_at (line_at b 0) 3

  abbrev values : List Refusal
  values = value_faults (sheet_of b) announced (eqb announced (line_count b - 1))

  faults_split : faults b ≡ (length_faults b ++ form_faults b) ++ values
  unfolding faults
  faults_split = sym (append_assoc (length_faults b) (form_faults b) values)

  module _ (form : Refusal) (f : form ≡ first_refusal (length_faults b ++ form_faults b)) where
    -- refused by 1 or 2
    pub form_refused : (form.number ≡ 0 → ⊥) → refused form ≡ reading_of b
    form_refused n =
        answer_refused b form
        (f ∙ first_left (length_faults b ++ form_faults b) values (λ z. n (ap (λ r. r.number) f ∙ z)) ∙ ap first_refusal (sym faults_split)) n

    module _ (z : form.number ≡ 0) where
      -- not refused by 1 and 2, it has a first line
      pub form_long : line_bytes ≤ length b
      form_long =
          let none = numbered_form (sym (ap (λ r. r.number) f) ∙ z) in
          (whole_length_faults b (append_nil_parts (length_faults b) (form_faults b) none).0).0.ge

      form_passed : first_refusal (faults b) ≡ first_refusal values
      form_passed = ap first_refusal faults_split ∙ first_right (length_faults b ++ form_faults b) values (numbered_form (sym (ap (λ r. r.number) f) ∙ z))

      module _ {slots blowers wake rations : ℕ} (d : HeadRead b slots blowers wake rations) (h : Refusal)
          (e : h ≡ first_refusal (head_faults (head slots blowers wake) rations (eqb rations (line_count b - 1)))) where
        same_head : head_faults (head slots blowers wake) rations (eqb rations (line_count b - 1)) ≡ head_faults (sheet_of b) announced (eqb announced (line_count b - 1))
        unfolding head_faults sheet_of
        same_head = rw (d.slots_is, d.blowers_is, d.wake_is, d.rations_is)

        abbrev rest : List Refusal
        rest = jobs_faults (sheet_of b).slots 2 0 0 (sheet_of b).jobs

        -- refused by 3 to 6
        pub head_refused : (h.number ≡ 0 → ⊥) → refused h ≡ reading_of b
        unfolding value_faults
        head_refused n =
            answer_refused b h
            (e ∙ ap first_refusal same_head ∙ first_left (head_faults (sheet_of b) announced (eqb announced (line_count b - 1))) rest
            (λ y. n (ap (λ r. r.number) (e ∙ ap first_refusal same_head) ∙ y)) ∙ sym form_passed) n

        module _ (y : h.number ≡ 0) where
          none : head_faults (head slots blowers wake) rations (eqb rations (line_count b - 1)) ≡ []
          none = numbered_head_faults (head slots blowers wake) rations (eqb rations (line_count b - 1)) (sym (ap (λ r. r.number) e) ∙ y)

          pub head_passed : HeadInRange (head slots blowers wake) rations (eqb rations (line_count b - 1))
          head_passed = in_range_head_faults (head slots blowers wake) rations (eqb rations (line_count b - 1)) none

          pub head_agrees : rations ≡ line_count b - 1
          head_agrees = eqb-true rations (line_count b - 1) head_passed.agree

          head_left : first_refusal (faults b) ≡ first_refusal rest
          unfolding value_faults
          head_left = form_passed ∙ first_right (head_faults (sheet_of b) announced (eqb announced (line_count b - 1))) rest (sym same_head ∙ none)

          module _ (n : ℕ) (c : n ≡ line_count b - 1) (numbers : List ℕ) (g : numbers ≡ padded (fields * max_rations) (numbers_to (job_at b) n)) (r : Refusal)
              (q : r ≡ first_refusal (jobs_faults slots 2 0 0 (jobs_of (take (fields * n) numbers)))) where
            same_jobs : r ≡ first_refusal rest
            unfolding sheet_of
            same_jobs =
                q ∙ ap (λ xs. first_refusal (jobs_faults slots 2 0 0 (jobs_of xs))) (ap (take (fields * n)) g ∙ take_padded (fields * max_rations) (numbers_to (job_at b) n) (fields * n) (length_numbers_to (job_at b) n))
                ∙ ap (λ js. first_refusal (jobs_faults slots 2 0 0 js)) (jobs_of_numbers_of (map (job_at b) (range 1 n)))
                ∙ ap (λ k. first_refusal (jobs_faults slots 2 0 0 (map (job_at b) (range 1 k)))) c
                ∙ ap (λ k. first_refusal (jobs_faults k 2 0 0 (map (job_at b) (range 1 (line_count b - 1))))) d.slots_is

            -- refused by 7 to 9 or 13
            pub jobs_refused : (r.number ≡ 0 → ⊥) → refused r ≡ reading_of b
            jobs_refused k = answer_refused b r (same_jobs ∙ sym head_left) k

            -- accepted
            pub read_accepted : r.number ≡ 0
                → record { number = 0; line = 0; slots = slots; blowers = blowers; wake = wake; rations = rations; numbers = numbers } ≡ reading_of b
            unfolding accepted sheet_of
            read_accepted k =
                (λ i. record { number = 0; line = 0; slots = d.slots_is i; blowers = d.blowers_is i; wake = d.wake_is i; rations = count i; numbers = flat i })
                ∙ answer_accepted b (ap (λ x. x.number) (head_left ∙ sym same_jobs) ∙ k)
              where
                count : rations ≡ length (sheet_of b).jobs
                count = head_agrees ∙ sym (length_jobs_sheet_of b)

                flat : numbers ≡ padded (fields * max_rations) (numbers_of (sheet_of b).jobs)
                flat = g ∙ ap (λ m. padded (fields * max_rations) (numbers_to (job_at b) m)) c
