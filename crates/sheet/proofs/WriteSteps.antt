-- How writing a sheet goes on. Assumes nothing.
use Rattle.std.specs.Prelude.{◌≡◌, refl, true, List, [], ◌∷◌, ◌++◌, ltb, eqb, get_or, take}
use Rattle.std.proofs.Math.Path.{sym, ap, subst}
use Rattle.std.proofs.Common.{◌∙◌, append-nil, length-append, take-append-drop, take-add, length-take-le, lt-ltb, le-ltb, ne_eqb, eqb-true, ltb-false}
use Prim.Native.Nat.{ℕ, zero, suc, ◌+◌, ◌-◌, ◌*◌, ◌≤◌, ◌<◌}
use native.Mathlib.Omega.{arith}
use Rattle.std.proofs.Math.ListN.{length, drop}
use Rattle.common.specs.Lists.{part, flat_map}
use Rattle.common.specs.ListLaws.{part_cons, part_none, flat_map_append}
use Rattle.common.specs.Buffers.{over, put_at}
use Rattle.common.specs.BufferLaws.{put_at_append}
use Rattle.line.specs.Layout.{fields, line_bytes}
use Rattle.line.specs.Line.{write_line}
use Rattle.line.specs.LineLaws.{length_write_line}
use Rattle.checks.specs.declared.Refusal.{Refusal}
use Rattle.sheet.specs.declared.Reading.{Reading}
use Rattle.sheet.specs.declared.Written.{Written}
use Rattle.checks.specs.Limits.{max_rations}
use Rattle.checks.specs.Refusals.{short_buffer}
use Rattle.checks.specs.Sheet.{Job, Sheet, write_job, write_sheet, jobs_of, sheet_from}
use Rattle.checks.specs.Checks.{fault, first_refusal, value_faults, flat_faults}
use Rattle.sheet.specs.Calls.{accepted, write_refusal, write_refusal_for, written_of, buffer_after}
use Rattle.checks.specs.NumbersLaws.{length_jobs_of, jobs_of_numbers_of}
use Rattle.checks.specs.SheetLaws.{length_write_job, length_write_sheet}
use Rattle.checks.specs.FaultLaws.{append_nil_parts, false_fault, numbered_append, numbered_fault, numbered_value_faults}
use Rattle.checks.specs.RangeLaws.{in_range_value_faults}
use Rattle.sheet.proofs.CallLaws.{rations_read_accepted}
use Rattle.sheet.specs.OwnChecks.{ReadFrom, Wrote}
use Rattle.sheet.proofs.OwnCheckLaws.{flat_agrees, refused_before, accepted_before, read_is}
use Rattle.checks.specs.Parts.{job}

-- ---- rations side by side

jobs_of_append : (k : ℕ) (xs ys : List ℕ) → length xs ≡ fields * k → jobs_of (xs ++ ys) ≡ jobs_of xs ++ jobs_of ys
unfolding jobs_of
jobs_of_append zero [] ys e = refl
jobs_of_append zero (x ∷ xs) ys e = absurd (omega arith)
jobs_of_append (suc k) (a ∷ b ∷ c ∷ d ∷ xs) ys e = ap (λ js. job a b c d ∷ js) (jobs_of_append k xs ys (omega arith))
jobs_of_append (suc k) [] ys e = absurd (omega arith)
jobs_of_append (suc k) (a ∷ []) ys e = absurd (omega arith)
jobs_of_append (suc k) (a ∷ b ∷ []) ys e = absurd (omega arith)
jobs_of_append (suc k) (a ∷ b ∷ c ∷ []) ys e = absurd (omega arith)

length_write_jobs : (js : List Job) → length (flat_map write_job js) ≡ line_bytes * length js
length_write_jobs [] = refl
length_write_jobs (j ∷ js) = length-append (write_job j) (flat_map write_job js) ∙ omega (arith, length_write_job j, length_write_jobs js)

four_of : (l : List ℕ) (k : ℕ) → k + fields ≤ length l → take fields (drop k l) ≡ get_or l k 0 ∷ get_or l (k + 1) 0 ∷ get_or l (k + 2) 0 ∷ get_or l (k + 3) 0 ∷ []
four_of l k h =
    ap (λ n. take n (drop k l)) (size k)
    ∙ part_cons l k (k + 4) 0 (omega arith) h ∙ ap (λ xs. get_or l k 0 ∷ xs) (step 1 2 (omega arith) (omega arith))
    ∙ ap (λ xs. get_or l k 0 ∷ get_or l (k + 1) 0 ∷ xs) (step 2 3 (omega arith) (omega arith))
    ∙ ap (λ xs. get_or l k 0 ∷ get_or l (k + 1) 0 ∷ get_or l (k + 2) 0 ∷ xs) (step 3 4 (omega arith) (omega arith))
    ∙ ap (λ xs. get_or l k 0 ∷ get_or l (k + 1) 0 ∷ get_or l (k + 2) 0 ∷ get_or l (k + 3) 0 ∷ xs) (part_none l (k + 4))
  where
    size : (k : ℕ) → 4 ≡ (k + 4) - k
    size k = omega arith

    step : (i j : ℕ) → i < fields → (k + i) + 1 ≡ k + j → part (k + i) (k + 4) l ≡ get_or l (k + i) 0 ∷ part (k + j) (k + 4) l
    step i j b e = part_cons l (k + i) (k + 4) 0 (omega arith) h ∙ ap (λ x. get_or l (k + i) 0 ∷ part x (k + 4) l) e

module _ (numbers : List ℕ) where
  -- the first i rations of flat numbers
  abbrev pub first_jobs : ℕ → List Job
  first_jobs i = jobs_of (take (fields * i) numbers)

  length_lines : (i : ℕ) → fields * i ≤ length numbers → length (flat_map write_job (first_jobs i)) ≡ line_bytes * i
  length_lines i h = length_write_jobs (first_jobs i) ∙ ap (λ k. line_bytes * k) (length_jobs_of i (take (fields * i) numbers) (length-take-le (fields * i) numbers h))

  jobs_snoc : (i : ℕ) → fields * (i + 1) ≤ length numbers
      → first_jobs (i + 1)
      ≡ first_jobs i ++ (job (get_or numbers (fields * i) 0) (get_or numbers (fields * i + 1) 0) (get_or numbers (fields * i + 2) 0) (get_or numbers (fields * i + 3) 0) ∷ [])
  unfolding jobs_of
  jobs_snoc i h =
      ap (λ k. jobs_of (take k numbers)) (next i)
      ∙ ap jobs_of (take-add (fields * i) fields numbers)
      ∙ jobs_of_append i (take (fields * i) numbers) (take fields (drop (fields * i) numbers)) (length-take-le (fields * i) numbers (omega arith))
      ∙ ap (λ xs. first_jobs i ++ jobs_of xs) (four_of numbers (fields * i) (omega arith))
    where
      next : (i : ℕ) → fields * (i + 1) ≡ fields * i + fields
      next i = omega arith

  -- one line more
  pub put_ration : (out mid : List ℕ) (i : ℕ) → fields * (i + 1) ≤ length numbers → line_bytes * (i + 2) ≤ length out
      → mid ≡ put_at line_bytes (flat_map write_job (first_jobs i)) out
      → put_at (line_bytes * (i + 1))
      (write_line (get_or numbers (fields * i) 0) (get_or numbers (fields * i + 1) 0) (get_or numbers (fields * i + 2) 0) (get_or numbers (fields * i + 3) 0)) mid
      ≡ put_at line_bytes (flat_map write_job (first_jobs (i + 1))) out
  unfolding write_job
  put_ration out mid i h k e =
      ap (put_at (line_bytes * (i + 1)) line) e
      ∙ ap (λ n. put_at n line (put_at line_bytes (flat_map write_job (first_jobs i)) out)) (next i)
      ∙ put_at_append line_bytes (line_bytes * i) (flat_map write_job (first_jobs i)) line out (length_lines i (omega arith)) (omega arith)
      ∙ ap (λ l. put_at line_bytes (flat_map write_job (first_jobs i) ++ l) out) (sym (append-nil line))
      ∙ ap (λ l. put_at line_bytes l out) (sym (flat_map_append write_job (first_jobs i) (last ∷ [])))
      ∙ ap (λ js. put_at line_bytes (flat_map write_job js) out) (sym (jobs_snoc i h))
    where
      last : Job
      last = job (get_or numbers (fields * i) 0) (get_or numbers (fields * i + 1) 0) (get_or numbers (fields * i + 2) 0) (get_or numbers (fields * i + 3) 0)

      line : List ℕ
      line = write_line (get_or numbers (fields * i) 0) (get_or numbers (fields * i + 1) 0) (get_or numbers (fields * i + 2) 0) (get_or numbers (fields * i + 3) 0)

      next : (i : ℕ) → line_bytes * (i + 1) ≡ line_bytes + line_bytes * i
      next i = omega arith

  pub put_rations_begin : (out : List ℕ) → out ≡ put_at line_bytes (flat_map write_job (first_jobs 0)) out
  unfolding put_at jobs_of
  put_rations_begin out = sym (take-append-drop line_bytes out)

-- ---- what the writer answers

pub record WriteAccepted (s : Sheet) (n : ℕ) (numbers : List ℕ) (size : ℕ) : Type 0 where
  pub refusal : write_refusal s n numbers size ≡ record { number = 0; line = 0 }
  pub values : value_faults s n true ≡ []
  pub few : n ≤ max_rations
  pub agrees : fields * n ≡ length numbers
  pub room : line_bytes * suc n ≤ size

pub write_accepted : (s : Sheet) (n : ℕ) (numbers : List ℕ) (size : ℕ) → (write_refusal s n numbers size).number ≡ 0 → WriteAccepted s n numbers size
unfolding write_refusal first_refusal
write_accepted s n numbers size z =
    let values = value_faults s n (eqb (fields * n) (length numbers)) in
    let short = fault short_buffer 0 (ltb size (line_bytes * suc n)) in
    let none = numbered_append values short (numbered_value_faults s n (eqb (fields * n) (length numbers)))
    (numbered_fault short_buffer 0 (ltb size (line_bytes * suc n)) (omega arith)) z in
    let parts = append_nil_parts values short none in
    let h = (in_range_value_faults s n (eqb (fields * n) (length numbers)) parts.0).head in
    record {
      refusal = ap first_refusal none;
      values = subst (λ x. value_faults s n x ≡ []) h.agree parts.0;
      few = h.rations;
      agrees = eqb-true (fields * n) (length numbers) h.agree;
      room = ltb-false size (line_bytes * suc n) (false_fault short_buffer 0 (ltb size (line_bytes * suc n)) parts.1);
    }

-- the writer's refusal of flat numbers, as one of own checks and a sheet
pub write_refusal_flat : (slots blowers wake n : ℕ) (numbers : List ℕ) (size : ℕ)
    → let s = sheet_from slots blowers wake numbers in
    write_refusal_for (flat_faults s n numbers) s size ≡ write_refusal s n numbers size
unfolding write_refusal_for write_refusal sheet_from first_refusal
write_refusal_flat slots blowers wake n numbers size = go (flat_faults s n numbers) refl
  where
    s : Sheet
    s = sheet_from slots blowers wake numbers

    short : ℕ → List Refusal
    short k = fault short_buffer 0 (ltb size (line_bytes * suc k))

    go : (own : List Refusal) → flat_faults s n numbers ≡ own
        → first_refusal (own ++ short (length (jobs_of numbers))) ≡ first_refusal (own ++ short n)
    go [] e = ap (λ k. first_refusal (short k))
        (length_jobs_of n numbers (sym (flat_agrees slots blowers wake n numbers e)))
    go (x ∷ xs) e = refl

pub wrote_flat : (slots blowers wake n : ℕ) (numbers old new : List ℕ) (w : Written)
    → let s = sheet_from slots blowers wake numbers in
    Wrote (write_refusal_for (flat_faults s n numbers) s (length old)) s old new w
    → Wrote (write_refusal s n numbers (length old)) s old new w
wrote_flat slots blowers wake n numbers old new w h =
    let s = sheet_from slots blowers wake numbers in
    subst (λ f. Wrote f s old new w) (write_refusal_flat slots blowers wake n numbers (length old)) h

-- a refusal writes nothing
wrote_nothing : (f : Refusal) (s : Sheet) (old : List ℕ) → (f.number ≡ 0 → ⊥)
    → Wrote f s old old (record { number = f.number; line = f.line; length = 0 })
unfolding written_of buffer_after
wrote_nothing f s old n = (rw (ne_eqb f.number 0 n), rw (ne_eqb f.number 0 n))

-- number 0 writes the sheet
wrote_sheet : (f : Refusal) (s : Sheet) (old new : List ℕ) (k : ℕ) → f ≡ record { number = 0; line = 0 }
    → k ≡ length (write_sheet s) → new ≡ over (write_sheet s) old
    → Wrote f s old new (record { number = 0; line = 0; length = k })
unfolding written_of buffer_after
wrote_sheet f s old new k e l b = (rw e (λ i. record { number = 0; line = 0; length = l i }), rw e b)

module _ {own : List Refusal} {s : Sheet} {r : Reading} (h : ReadFrom own s r) (old : List ℕ) where
  abbrev answer : Refusal
  answer = write_refusal_for own s (length old)

  -- refused before 10
  pub wrote_refused : (r.number ≡ 0 → ⊥)
      → Wrote answer s old old (record { number = r.number; line = r.line; length = 0 })
  unfolding write_refusal_for
  wrote_refused n =
      let f : Refusal = record { number = r.number; line = r.line } in
      subst (λ x. Wrote x s old old (record { number = r.number; line = r.line; length = 0 }))
      (sym (refused_before h n _)) (wrote_nothing f s old n)

  module _ (z : r.number ≡ 0) where
    -- the head line's numbers and the rations that were read
    abbrev head_line : List ℕ
    head_line = write_line r.slots r.blowers r.wake r.rations

    abbrev ration_lines : List ℕ
    ration_lines = flat_map write_job (jobs_of (take (fields * r.rations) r.numbers))

    read_text : head_line ++ ration_lines ≡ write_sheet s
    unfolding write_sheet accepted
    read_text =
        ap (λ x. write_line x.slots x.blowers x.wake x.rations ++ flat_map write_job
        (jobs_of (take (fields * x.rations) x.numbers))) (read_is h z)
        ∙ ap (λ js. write_line s.slots s.blowers s.wake (length s.jobs) ++ flat_map write_job js)
        (ap jobs_of (rations_read_accepted s) ∙ jobs_of_numbers_of s.jobs)

    count : r.rations ≡ length s.jobs
    unfolding accepted
    count = ap (λ x. x.rations) (read_is h z)

    left : answer ≡ first_refusal (fault short_buffer 0 (ltb (length old) (line_bytes * suc (length s.jobs))))
    unfolding write_refusal_for
    left = accepted_before h z _

    -- refused by 10
    pub wrote_short : length old < line_bytes * (r.rations + 1)
        → Wrote answer s old old (record { number = short_buffer; line = 0; length = 0 })
    unfolding first_refusal
    wrote_short l =
        let f : Refusal = record { number = short_buffer; line = 0 } in
        subst (λ x. Wrote x s old old (record { number = short_buffer; line = 0; length = 0 }))
        (sym (left ∙ ap (λ t. first_refusal (fault short_buffer 0 t))
        (lt-ltb (length old) (line_bytes * suc (length s.jobs)) (omega (arith, count)))))
        (wrote_nothing f s old (λ e. omega (arith, e)))

    pub wrote_read : line_bytes * (r.rations + 1) ≤ length old → (mid last : List ℕ) → mid ≡ put_at 0 head_line old
        → last ≡ put_at line_bytes ration_lines mid
        → Wrote answer s old last (record { number = 0; line = 0; length = line_bytes * (r.rations + 1) })
    unfolding first_refusal over put_at
    wrote_read l mid last p q =
        wrote_sheet answer s old last (line_bytes * (r.rations + 1))
        (left ∙ ap (λ t. first_refusal (fault short_buffer 0 t))
        (le-ltb (length old) (line_bytes * suc (length s.jobs)) (omega (arith, count))))
        (omega (arith, count, length_write_sheet s))
        (q ∙ ap (put_at line_bytes ration_lines) p
        ∙ put_at_append 0 line_bytes head_line ration_lines old
        (length_write_line r.slots r.blowers r.wake r.rations) (omega arith)
        ∙ ap (λ t. put_at 0 t old) read_text ∙ ap (λ k. write_sheet s ++ drop k old) (front (length (write_sheet s))))
      where
        front : (k : ℕ) → 0 + k ≡ k
        front k = omega arith
