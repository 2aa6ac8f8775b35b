-- A sheet whose first line is closed too early, as one in lines of fewer columns is, is refused by 1 or 2. Assumes
-- nothing.
use Rattle.std.specs.Prelude.{◌≡◌, ◌⊎◌, Bool, true, false, ◌||◌, eqb, length, get_or}
use Rattle.std.proofs.Math.Path.{refl}
use Rattle.std.proofs.Common.{ap, ◌∙◌, inl, inr, arith, get_or-take}
use Rattle.std.proofs.Math.Bool.{not}
use mathlib.Core.List.{List, ◌++◌}
use Prim.Native.Nat.{ℕ, zero, suc, ◌-◌, ◌*◌, ◌%◌, ◌≤◌, ◌<◌}
use Rattle.std.proofs.Math.Seq.{length-take-le}
use Rattle.line.specs.Layout.{width, fields, line_bytes, newline}
use Rattle.line.specs.Line.{value_at, faulty_line}
use Rattle.line.specs.LineLaws.{faulty_early}
use Rattle.checks.specs.declared.Refusal.{Refusal}
use Rattle.checks.specs.Limits.{max_bytes}
use Rattle.checks.specs.Refusals.{bad_length, bad_form}
use Rattle.checks.specs.Sheet.{line_count, line_at, sheet_of}
use Rattle.checks.specs.Checks.{fault, first_refusal, outside, length_faults, first_faulty, form_faults, value_faults, faults}
use Rattle.checks.specs.WellFormedLaws.{whole_length_faults}

module _ (b : List ℕ) (i : ℕ) (early : i < width * fields) (closing : get_or b i 0 ≡ newline) where
  module _ (long : line_bytes ≤ length b) where
    first_line_faulty : faulty_line (line_at b 0) ≡ true
    unfolding line_at
    first_line_faulty =
        faulty_early (line_at b 0) i early (omega (arith, length-take-le line_bytes b long))
        (get_or-take line_bytes b i 0 (omega arith) ∙ closing)

    first_line_named : (n : ℕ) → 0 < n → first_faulty b 0 n ≡ 1
    unfolding first_faulty
    first_line_named zero l = absurd (omega arith)
    first_line_named (suc n) l = rw first_line_faulty

  -- The length is refused, or the first line is.
  pub early_closing_refused : (first_refusal (faults b) ≡ record { number = bad_length; line = 0 })
      ⊎ (first_refusal (faults b) ≡ record { number = bad_form; line = 1 })
  unfolding faults length_faults form_faults first_refusal
  early_closing_refused = go (outside line_bytes max_bytes (length b) || not (eqb (length b % line_bytes) 0)) refl
    where
      values : List Refusal
      values = let n : ℕ = value_at (line_at b 0) 3 in value_faults (sheet_of b) n (eqb n (line_count b - 1))

      go : (t : Bool) → (outside line_bytes max_bytes (length b) || not (eqb (length b % line_bytes) 0)) ≡ t
          → (first_refusal (fault bad_length 0 t ++ (form_faults b ++ values)) ≡ record { number = bad_length; line = 0 })
          ⊎ (first_refusal (fault bad_length 0 t ++ (form_faults b ++ values)) ≡ record { number = bad_form; line = 1 })
      go true e = inl refl
      go false e =
          let w = whole_length_faults b (ap (fault bad_length 0) e) in
          inr (rw (first_line_named w.0.ge (line_count b) (omega (arith, w.0, w.1))) refl)
