-- A practice sheet that was written has the bytes of the sheet drawn, so that what holds of a sheet's bytes holds of
-- it. Assumes nothing.
use Rattle.std.specs.Prelude.{◌≡◌, List, [], ℕ, suc, ◌*◌, ◌≤◌, length}
use Rattle.std.proofs.Common.{sym, subst₂, ◌∙◌}
use Rattle.std.proofs.Math.Path.{ap}
use Rattle.std.proofs.Math.ListN.{take}
use Rattle.common.specs.BufferLaws.{take_over}
use Rattle.line.specs.Layout.{line_bytes}
use Rattle.checks.specs.Refusals.{bad_form}
use Rattle.checks.specs.Sheet.{Sheet, write_sheet, sheet_of}
use Rattle.checks.specs.Checks.{faults}
use Rattle.sheet.specs.Calls.{written_of, buffer_after}
use Rattle.practice.specs.Practice.{practice_sheet, practice_refusal, seed_input}
use Rattle.practice.proofs.PracticeLaws.{practice_room}
use Rattle.practice.proofs.Theorems.{practice_accepted, practice_values}
use Rattle.plan_lines.specs.Text.{refusal_text}
use Rattle.program.specs.Theorems.{made_front, seed_taken, seed_refused}
use Rattle.demands.specs.Answers.{practice_text}

module _ (seed : ℕ) where
  -- what holds of every sheet without a fault holds of the one drawn, and of its bytes
  pub of_practice : (P : List ℕ → Sheet → Type 0) → ((b : List ℕ) → faults b ≡ [] → P b (sheet_of b)) → {text : List ℕ}
      → text ≡ write_sheet (practice_sheet seed) → P text (practice_sheet seed)
  of_practice P all e =
      subst₂ P (sym e) (practice_values seed) (all (write_sheet (practice_sheet seed)) (practice_accepted seed))

  -- the call, with a buffer that is long enough
  module _ (out : List ℕ) (l : line_bytes * suc (length (practice_sheet seed).jobs) ≤ length out) where
    pub practice_number : (written_of (practice_refusal seed (length out)) (practice_sheet seed)).number ≡ 0
    unfolding written_of
    practice_number = ap (λ r. r.number) (practice_room seed (length out) l)

    pub practice_written : let r = practice_refusal seed (length out) in
        take (written_of r (practice_sheet seed)).length (buffer_after r (practice_sheet seed) out) ≡ write_sheet (practice_sheet seed)
    unfolding written_of buffer_after
    practice_written =
        ap (λ r. take (written_of r (practice_sheet seed)).length (buffer_after r (practice_sheet seed) out)) (practice_room seed (length out) l)
        ∙ take_over (write_sheet (practice_sheet seed)) out

  -- the program
  pub practice_taken : seed ≤ 99999 → practice_text (seed_input seed) ≡ write_sheet (practice_sheet seed)
  practice_taken h = made_front (seed_input seed) ∙ seed_taken seed h

pub practice_refused : (b : List ℕ) → ((seed : ℕ) → seed ≤ 99999 → b ≡ seed_input seed → ⊥) → practice_text b ≡ refusal_text bad_form 1
practice_refused b none = made_front b ∙ seed_refused b none
