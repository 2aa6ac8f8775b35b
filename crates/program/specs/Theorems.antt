-- The programs' theorems. For a well-formed sheet the planner writes what a planning call writes, its output fits the
-- plan buffer, an input longer than any sheet is refused, every refusal fits its fields, and its text is read back. The
-- practice sheets' program takes the seeds from 0 to 99,999, and nothing else. Assumes nothing.
use Rattle.std.specs.Prelude.{◌≡◌, ◌⊎◌, Bool, false, ◌||◌, not, cond, ℕ, ◌^◌, ◌≤◌, ◌<◌, ltb, length, take}
use Rattle.std.proofs.Math.Path.{refl}
use Rattle.std.proofs.Common.{sym, subst, inl, inr, arith, lt-ltb}
use Rattle.std.proofs.Math.Bool.{true}
use mathlib.Core.List.Memᴰ
use mathlib.Core.List.{List, [], ◌∷◌, Memᴰ}
use Rattle.std.proofs.Math.Seq.{take-append_seam}
use Rattle.line.specs.Layout.{width, line_bytes}
use Rattle.checks.specs.declared.Refusal.{Refusal}
use Rattle.checks.specs.Limits.{max_bytes}
use Rattle.checks.specs.Refusals.{bad_form, short_buffer, no_placing}
use Rattle.checks.specs.Sheet.{sheet_of, write_sheet}
use Rattle.checks.specs.Checks.{first_refusal, outside, length_faults, faults}
use Rattle.sheet.proofs.FirstRefusalLaws.{first_fault, first_append}
use Rattle.sheet.proofs.Theorems.{refusal_most}
use Rattle.common.specs.Buffers.{padded}
use Rattle.plan_lines.specs.Sizes.{plan_bytes}
use Rattle.plan_lines.specs.Lines.{line}
use Rattle.plan_lines.specs.Text.{held_word, refusal_text}
use Rattle.planning.specs.Problem.{Problem, alone, can_be_planned, listing_of}
use Rattle.planning.specs.Planning.{plan_refusal, listed_answer, listing_after, writes}
use Rattle.planning.proofs.WrittenLaws.{number_planned, number_held, writes_planned, writes_held, listing_written}
use Rattle.planning.specs.ReadListing.{written}
use Rattle.planning.specs.ReadLaws.{FitsLine, FitLines}
use Rattle.planning.proofs.Theorems.{ReadsAs, reads_as}
use Rattle.practice.specs.Practice.{practice_sheet, seed_input, seed_in, max_seed, faulty_seed}
use Rattle.practice.proofs.SeedLaws.{seed_fine, seed_is, seed_there}
use Rattle.program.specs.Program.{output, output_of, seed_output, made_sheet_of}
use Rattle.program.specs.OutputLaws.{length_output}

module _ (b : List ℕ) (accepted : faults b ≡ []) where
  abbrev p : Problem
  p = alone (sheet_of b)

  -- For a well-formed sheet the output is what a planning call writes in any plan buffer.
  pub program_writes : (buffer : List ℕ)
      → output b ≡ written (listed_answer (plan_refusal b false) (listing_of p)) (listing_after (plan_refusal b false) (listing_of p) buffer)
  unfolding output plan_refusal
  program_writes buffer = go (can_be_planned p) refl
    where
      with_number : writes (plan_refusal b false).number ≡ true
          → output b ≡ written (listed_answer (plan_refusal b false) (listing_of p)) (listing_after (plan_refusal b false) (listing_of p) buffer)
      with_number w = rw w (sym (listing_written (plan_refusal b false) (listing_of p) buffer w))

      go : (c : Bool) → can_be_planned p ≡ c → output b ≡ written (listed_answer (plan_refusal b false) (listing_of p)) (listing_after (plan_refusal b false) (listing_of p) buffer)
      go true e = with_number (writes_planned _ (number_planned p accepted false refl e))
      go false e = with_number (writes_held _ (number_held p accepted false refl e))

-- The program writes the first bytes of what `answer` gives, as many as its length says: they are the output.
pub program_front : (b : List ℕ) → take (output_of b).length (output_of b).bytes ≡ output b
unfolding output_of padded
program_front b = take-append_seam (output b) _

-- The output fits the plan buffer, whatever the input is.
pub program_length : (b : List ℕ) → length (output b) ≤ plan_bytes
program_length b = length_output b

-- An input of more than 65,520 bytes is refused by its length, whatever it holds: the program needs to read no more
-- than one byte beyond these.
pub program_too_long : (b : List ℕ) → max_bytes < length b → output b ≡ refusal_text 1 0
unfolding output plan_refusal faults length_faults outside first_refusal writes
program_too_long b l = rw (lt-ltb max_bytes (length b) l, or_true (ltb (length b) line_bytes))
  where
    or_true : (x : Bool) → (x || true) ≡ true
    or_true true = refl
    or_true false = refl

-- Number and line of every refusal fit their fields.
pub refusal_fits : (b : List ℕ) (short : Bool) → ((plan_refusal b short).number < 10 ^ width) × ((plan_refusal b short).line < 10 ^ width)
unfolding plan_refusal
refusal_fits b short =
    first_append Fits none (faults b) _ own
    (first_append Fits none _ _ (first_fault Fits none short_buffer 0 short (omega arith, omega arith))
    (first_fault Fits none no_placing 0 (not (can_be_planned (alone (sheet_of b)))) (omega arith, omega arith)))
  where
    Fits : Refusal → Type 0
    Fits r = (r.number < 10 ^ width) × (r.line < 10 ^ width)

    none : Fits (record { number = 0; line = 0 })
    none = (omega arith, omega arith)

    own : Fits (first_refusal (faults b))
    own = let m = refusal_most b in (omega (arith, m.0), omega (arith, m.1))

-- A refusal's text is read back, as a listing is (`listing_read_back`).
pub refusal_read_back : (number l : ℕ) → number < 10 ^ width → l < 10 ^ width → ReadsAs (refusal_text number l) (line number l 0 0 ∷ [])
unfolding refusal_text
refusal_read_back number l f g = reads_as (refusal_text number l) held_word (line number l 0 0 ∷ []) refl refl fit
  where
    fit : FitLines (line number l 0 0 ∷ [])
    fit x i = only (Memᴰ.cases_cons i)
      where
        only : (x ≡ line number l 0 0) ⊎ Memᴰ x [] → FitsLine x
        only (inl e) = subst FitsLine (sym e) (record { a = f; b = g; c = omega arith; d = omega arith })
        only (inr k) = absurd (Memᴰ.not-nil k)

-- Practice sheets ---------------------------------------------------------------------------

-- The program writes the first bytes of what `make_sheet` gives: they are the output.
pub made_front : (b : List ℕ) → take (made_sheet_of b).length (made_sheet_of b).bytes ≡ seed_output b
unfolding made_sheet_of padded
made_front b = take-append_seam (seed_output b) _

-- It takes each seed from 0 to 99,999, ..
pub seed_taken : (seed : ℕ) → seed ≤ max_seed → seed_output (seed_input seed) ≡ write_sheet (practice_sheet seed)
unfolding seed_output
seed_taken seed h = rw (seed_fine seed h, seed_is seed h)

-- .. and refuses any other input.
pub seed_refused : (b : List ℕ) → ((seed : ℕ) → seed ≤ max_seed → b ≡ seed_input seed → ⊥) → seed_output b ≡ refusal_text bad_form 1
unfolding seed_output
seed_refused b none = go (faulty_seed b) refl
  where
    go : (x : Bool) → faulty_seed b ≡ x → cond x (refusal_text bad_form 1) (write_sheet (practice_sheet (seed_in b))) ≡ refusal_text bad_form 1
    go true e = refl
    go false e =
        let s = seed_there b e in
        absurd (none s.0 s.1 s.2)
