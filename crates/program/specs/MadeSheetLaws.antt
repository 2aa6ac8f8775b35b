-- How the output of the practice sheets' program follows from its input, and that it fits its bytes. Assumes nothing.
use Rattle.std.specs.Prelude.{◌≡◌, Bool, true, false, cond, List, ℕ, ◌≤◌, replicate}
use Rattle.std.proofs.Math.Path.{ap}
use Rattle.std.proofs.Common.{◌∙◌, arith}
use Rattle.std.proofs.Math.ListN.{length, length-replicate}
use Rattle.common.specs.Buffers.{over, padded}
use Rattle.common.specs.BufferLaws.{length_padded}
use Rattle.checks.specs.Refusals.{bad_form}
use Rattle.checks.specs.Sheet.{write_sheet}
use Rattle.checks.specs.SheetLaws.{length_write_sheet}
use Rattle.sheet.specs.declared.Written.{Written as SheetWritten}
use Rattle.sheet.specs.Calls.{written_of, buffer_after}
use Rattle.practice.specs.Practice.{faulty_seed, seed_in, practice_sheet, practice_bytes, practice_refusal}
use Rattle.practice.proofs.PracticeLaws.{practice_room, practice_longest}
use Rattle.plan_lines.specs.Text.{refusal_text}
use Rattle.listing.specs.Opening.{Written, length_refusal_text}
use Rattle.program.specs.declared.Output.{Output}
use Rattle.program.specs.Program.{seed_output, made_sheet_of}
use Rattle.program.specs.OutputLaws.{over_zeros}

-- The output --------------------------------------------------------------------------------

abbrev pub made_zeros : List ℕ
made_zeros = replicate practice_bytes 0

module _ (b : List ℕ) where
  as_made : (text bytes : List ℕ) (n : ℕ) → text ≡ seed_output b → bytes ≡ over text made_zeros → n ≡ length text
      → record { bytes = bytes; length = n } ≡ made_sheet_of b
  unfolding made_sheet_of
  as_made text bytes n e w l =
      λ i. record {
        bytes = (w ∙ over_zeros practice_bytes text ∙ ap (padded practice_bytes) e) i;
        length = (l ∙ ap length e) i;
      }

  -- the refusal's text was put
  pub made_refused : faulty_seed b ≡ true → {last : List ℕ} {n : ℕ} → Written (refusal_text bad_form 1) made_zeros last n
      → record { bytes = last; length = n } ≡ made_sheet_of b
  unfolding seed_output
  made_refused e {last} {n} v = as_made (refusal_text bad_form 1) last n (rw e) v.bytes v.size

  -- the sheet was written
  pub made_written : faulty_seed b ≡ false → (seed : ℕ) → seed ≡ seed_in b → {w : SheetWritten} {last : List ℕ}
      → w ≡ written_of (practice_refusal seed (length made_zeros)) (practice_sheet seed)
      → last ≡ buffer_after (practice_refusal seed (length made_zeros)) (practice_sheet seed) made_zeros
      → record { bytes = last; length = w.length } ≡ made_sheet_of b
  unfolding seed_output written_of buffer_after
  made_written e seed s {w} {last} f g =
      as_made (write_sheet (practice_sheet seed)) last w.length (rw (e, s))
      (g ∙ ap (λ r. buffer_after r (practice_sheet seed) made_zeros) room)
      (ap (λ x. x.length) f ∙ ap (λ r. (written_of r (practice_sheet seed)).length) room)
    where
      room : practice_refusal seed (length made_zeros) ≡ record { number = 0; line = 0 }
      room = practice_room seed (length made_zeros) (omega (arith, practice_longest seed, length-replicate {A = ℕ} practice_bytes 0))

-- Its length ----------------------------------------------------------------------------------

length_made : (b : List ℕ) → length (seed_output b) ≤ practice_bytes
unfolding seed_output
length_made b = go (faulty_seed b)
  where
    go : (x : Bool) → length (cond x (refusal_text bad_form 1) (write_sheet (practice_sheet (seed_in b)))) ≤ practice_bytes
    go true = omega (arith, length_refusal_text bad_form 1)
    go false = omega (arith, length_write_sheet (practice_sheet (seed_in b)), practice_longest (seed_in b))

-- what `make_sheet` gives is no longer than its bytes
pub made_within : (b : List ℕ) (r : Output practice_bytes) → r ≡ made_sheet_of b → r.length ≤ length r.bytes
unfolding made_sheet_of
made_within b r e =
    let h = length_made b in
    omega (arith, ap (λ (x : Output practice_bytes). x.length) e, ap (λ (x : Output practice_bytes). length x.bytes) e, length_padded practice_bytes (seed_output b) h)
