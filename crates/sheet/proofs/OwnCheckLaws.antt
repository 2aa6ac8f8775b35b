-- What a reading says of the checks and the sheet it was read from: the first refusal of a call that makes further
-- checks after them, or values in range. The checks of a sheet's bytes, of flat numbers and of values alone are such
-- checks. Assumes nothing.
use Rattle.std.specs.Prelude.{◌≡◌, Bool, List, [], ◌++◌, ℕ, ◌+◌, ◌*◌, ◌≤◌, length}
use Rattle.std.proofs.Math.Path.{refl, ap}
use Rattle.std.proofs.Common.{sym, subst, ◌∙◌, arith, eqb-true}
use Rattle.std.proofs.Math.Bool.{true, false, cond}
use Rattle.std.proofs.Math.Dec.{eqb}
use Rattle.checks.specs.declared.Refusal.{Refusal}
use Rattle.sheet.specs.declared.Reading.{Reading}
use Rattle.line.specs.Layout.{fields}
use Rattle.checks.specs.Limits.{max_slots, max_blowers}
use Rattle.checks.specs.Refusals.{no_placing}
use Rattle.checks.specs.Sheet.{Sheet, sheet_of, sheet_from}
use Rattle.checks.specs.Checks.{first_refusal, value_faults, faults, flat_faults}
use Rattle.sheet.specs.Calls.{accepted, refused, reading_from, reading_of}
use Rattle.checks.specs.NumbersLaws.{length_jobs_of}
use Rattle.checks.specs.FaultLaws.{numbered_value_faults, numbered_faults}
use Rattle.checks.specs.RangeLaws.{ValuesInRange, in_range_value_faults, values_looser}
use Rattle.checks.specs.WellFormedLaws.{well_formed_faults}
use Rattle.sheet.proofs.CallLaws.{reading_from_accepted, none_reading_from}
use Rattle.checks.specs.CheckSteps.{first_left, first_right}
use Rattle.sheet.proofs.FirstRefusalLaws.{first_values, first_faults}
use Rattle.sheet.specs.OwnChecks.{OfSheet, OwnChecks, ReadFrom}

-- No check of a sheet alone has the number 12 ------------------------------------------

of_values : (s : Sheet) (n : ℕ) (agrees : Bool) → OfSheet (value_faults s n agrees)
of_values s n agrees =
    record {
      not_held =
          first_values (λ r. r.number ≡ no_placing → ⊥) (λ e. omega arith) (1 + length s.jobs) (λ n line m k l. k) s n agrees
          (omega arith);
    }

of_faults : (b : List ℕ) → OfSheet (faults b)
of_faults b =
    record {
      not_held = first_faults (λ r. r.number ≡ no_placing → ⊥) (λ e. omega arith) 2620 (λ n line m k l. k) b (omega arith);
    }

-- Own checks ----------------------------------------------------------------------------

-- of a sheet's bytes
pub bytes_checked : (b : List ℕ) → OwnChecks (faults b) (sheet_of b)
bytes_checked b =
    record { numbered = numbered_faults b; of_sheet = of_faults b; values = λ e. values_looser (well_formed_faults b e).values }

-- of a sheet's values, whose rations are counted
pub values_checked : (s : Sheet) → OwnChecks (value_faults s (length s.jobs) true) s
values_checked s =
    record {
      numbered = numbered_value_faults s (length s.jobs) true;
      of_sheet = of_values s (length s.jobs) true;
      values = λ e. values_looser (in_range_value_faults s (length s.jobs) true e);
    }

-- where flat numbers agree with the rations announced, these are the sheet's
pub flat_agrees : (slots blowers wake n : ℕ) (numbers : List ℕ)
    → flat_faults (sheet_from slots blowers wake numbers) n numbers ≡ []
    → fields * n ≡ length numbers
flat_agrees slots blowers wake n numbers e =
    eqb-true (fields * n) (length numbers)
    (in_range_value_faults (sheet_from slots blowers wake numbers) n (eqb (fields * n) (length numbers))
    e).head.agree

-- of flat numbers
pub flat_checked : (slots blowers wake n : ℕ) (numbers : List ℕ)
    → let s = sheet_from slots blowers wake numbers in OwnChecks (flat_faults s n numbers) s
unfolding sheet_from
flat_checked slots blowers wake n numbers =
    let s = sheet_from slots blowers wake numbers in
    let agrees = eqb (fields * n) (length numbers) in
    record {
      numbered = numbered_value_faults s n agrees;
      of_sheet = of_values s n agrees;
      values = λ e.
          let v = in_range_value_faults s n agrees e in
          values_looser (subst (λ k. ValuesInRange 1 s k true)
          (sym (length_jobs_of n numbers (sym (flat_agrees slots blowers wake n numbers e))))
          (subst (λ t. ValuesInRange 1 s n t) v.head.agree v));
    }

pub bytes_read : (b : List ℕ) {r : Reading} → r ≡ reading_of b → ReadFrom (faults b) (sheet_of b) r
unfolding reading_of
bytes_read b e = record { checks = bytes_checked b; is = e }

-- What a reading says --------------------------------------------------------------------

module _ {own : List Refusal} {s : Sheet} {r : Reading} (h : ReadFrom own s r) where
  module _ (n : r.number ≡ 0 → ⊥) where
    read_refused : r ≡ refused (first_refusal own)
    unfolding reading_from accepted
    read_refused = go (eqb (first_refusal own).number 0) h.is
      where
        go : (t : Bool) → r ≡ cond t (accepted s) (refused (first_refusal own)) → r ≡ refused (first_refusal own)
        go true f = absurd (n (ap (λ x. x.number) f))
        go false f = f

    number_refused : r.number ≡ (first_refusal own).number
    unfolding refused
    number_refused = ap (λ x. x.number) read_refused

    line_refused : r.line ≡ (first_refusal own).line
    unfolding refused
    line_refused = ap (λ x. x.line) read_refused

    -- a refused reading is the refusal of a call that makes further checks after
    pub refused_before : (rest : List Refusal)
        → first_refusal (own ++ rest) ≡ record { number = r.number; line = r.line }
    refused_before rest =
        sym (first_left own rest (λ z. n (number_refused ∙ z)))
        ∙ (λ i. record { number = sym number_refused i; line = sym line_refused i })

    -- it is no held sheet
    pub not_held : r.number ≡ no_placing → ⊥
    not_held e = h.checks.of_sheet.not_held (sym number_refused ∙ e)

  module _ (z : r.number ≡ 0) where
    pub read_none : own ≡ []
    read_none = none_reading_from own s h.checks.numbered (sym (ap (λ x. x.number) h.is) ∙ z)

    -- an accepted reading leaves further checks to decide
    pub accepted_before : (rest : List Refusal) → first_refusal (own ++ rest) ≡ first_refusal rest
    accepted_before rest = first_right own rest read_none

    pub read_is : r ≡ accepted s
    read_is = h.is ∙ reading_from_accepted own s read_none

    pub read_values : ValuesInRange 0 s (length s.jobs) true
    read_values = h.checks.values read_none

  -- refused or not, it has at most 96 slots and 8 blowers
  pub read_small : (r.slots ≤ max_slots) × (r.blowers ≤ max_blowers)
  unfolding reading_from accepted refused
  read_small = go (eqb (first_refusal own).number 0) refl h.is
    where
      go : (t : Bool) → eqb (first_refusal own).number 0 ≡ t → r ≡ cond t (accepted s) (refused (first_refusal own))
          → (r.slots ≤ max_slots) × (r.blowers ≤ max_blowers)
      go true q e =
          let v = h.checks.values (h.checks.numbered (eqb-true (first_refusal own).number 0 q)) in
          (omega (arith, ap (λ x. x.slots) e, v.head.slots.le), omega (arith, ap (λ x. x.blowers) e, v.head.blowers.le))
      go false q e = (omega (arith, ap (λ x. x.slots) e), omega (arith, ap (λ x. x.blowers) e))
