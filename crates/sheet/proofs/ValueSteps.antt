-- What is read of flat numbers. Assumes nothing.
use Rattle.std.specs.Prelude.{◌≡◌, refl, List, [], ℕ, ◌*◌, ◌≤◌, eqb, get_or}
use Rattle.std.proofs.Math.Path.{sym}
use Rattle.std.proofs.Common.{ap, ◌∙◌, arith}
use Rattle.std.proofs.Math.ListN.{length}
use Rattle.checks.specs.declared.Refusal.{Refusal}
use Rattle.line.specs.Layout.{fields}
use Rattle.checks.specs.Limits.{max_rations}
use Rattle.checks.specs.Sheet.{Sheet, jobs_of, numbers_of, sheet_from}
use Rattle.checks.specs.Checks.{first_refusal, flat_faults}
use Rattle.sheet.specs.Calls.{accepted, refused, reading_from}
use Rattle.checks.specs.NumbersLaws.{length_jobs_of, numbers_of_jobs_of}
use Rattle.checks.specs.FaultLaws.{numbered_value_faults}
use Rattle.checks.specs.RangeLaws.{in_range_value_faults}
use Rattle.sheet.proofs.OwnCheckLaws.{flat_agrees}
use Rattle.sheet.proofs.ReadSteps.{from_refused, from_accepted}
use Rattle.common.specs.Buffers.{padded}
use Rattle.common.specs.FillLaws.{FilledTo, filled_end}

-- ---- the numbers in a list of fixed length

pub numbers_end : (numbers : List ℕ) → length numbers ≤ fields * max_rations → (i : ℕ) → i ≡ length numbers
    → (xs : List ℕ)
    → FilledTo (fields * max_rations) (λ k. get_or numbers k 0) i xs → xs ≡ padded (fields * max_rations) numbers
numbers_end numbers l i e xs h =
    filled_end (fields * max_rations) numbers (λ k. get_or numbers k 0) i e l (λ k p. refl) xs h

-- ---- what is read

module _ (slots blowers wake n : ℕ) (numbers : List ℕ) where
  abbrev s : Sheet
  s = sheet_from slots blowers wake numbers

  module _ (r : Refusal) (e : r ≡ first_refusal (flat_faults s n numbers)) where
    pub numbers_refused : (r.number ≡ 0 → ⊥) → refused r ≡ reading_from (flat_faults s n numbers) s
    numbers_refused k = from_refused (flat_faults s n numbers) s r e k

    module _ (z : r.number ≡ 0) where
      passed : flat_faults s n numbers ≡ []
      passed = numbered_value_faults s n (eqb (fields * n) (length numbers)) (sym (ap (λ x. x.number) e) ∙ z)

      agrees : fields * n ≡ length numbers
      agrees = flat_agrees slots blowers wake n numbers passed

      pub numbers_few : length numbers ≤ fields * max_rations
      numbers_few =
          let v = in_range_value_faults s n (eqb (fields * n) (length numbers)) passed in
          omega (arith, agrees, v.head.rations)

      pub numbers_accepted : (xs : List ℕ) → xs ≡ padded (fields * max_rations) numbers
          → record { number = 0; line = 0; slots = slots; blowers = blowers; wake = wake; rations = n; numbers = xs }
          ≡ reading_from (flat_faults s n numbers) s
      unfolding accepted sheet_from
      numbers_accepted xs g =
          (λ i. record {
            number = 0;
            line = 0;
            slots = slots;
            blowers = blowers;
            wake = wake;
            rations = count i;
            numbers = flat i;
          })
          ∙ from_accepted (flat_faults s n numbers) s (sym (ap (λ x. x.number) e) ∙ z)
        where
          count : n ≡ length (jobs_of numbers)
          count = sym (length_jobs_of n numbers (sym agrees))

          flat : xs ≡ padded (fields * max_rations) (numbers_of (jobs_of numbers))
          flat = g ∙ ap (padded (fields * max_rations)) (sym (numbers_of_jobs_of n numbers (sym agrees)))
