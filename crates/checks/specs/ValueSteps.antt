-- How the checks of flat numbers go on. Assumes nothing.
use Rattle.std.specs.Prelude.{◌≡◌, List, [], ◌++◌, ℕ, ◌*◌, eqb, length, take}
use Rattle.std.proofs.Math.Path.{refl}
use Rattle.std.proofs.Common.{sym, ap, ◌∙◌, eqb-true}
use Rattle.std.proofs.Math.Seq.{take-length}
use Rattle.checks.specs.declared.Refusal.{Refusal}
use Rattle.line.specs.Layout.{fields}
use Rattle.checks.specs.Sheet.{Sheet, jobs_of, sheet_from}
use Rattle.checks.specs.Checks.{first_refusal, head_faults, jobs_faults, value_faults, flat_faults}
use Rattle.checks.specs.FaultLaws.{numbered_head_faults}
use Rattle.checks.specs.RangeLaws.{HeadInRange, in_range_head_faults}
use Rattle.checks.specs.Parts.{head}
use Rattle.checks.specs.CheckSteps.{first_left, first_right}

module _ (slots blowers wake rations : ℕ) (numbers : List ℕ) (h : Refusal)
    (e : h ≡ first_refusal (head_faults (head slots blowers wake) rations (eqb (fields * rations) (length numbers))))
  where
    abbrev sheet : Sheet
    sheet = sheet_from slots blowers wake numbers

    abbrev heads : List Refusal
    heads = head_faults (head slots blowers wake) rations (eqb (fields * rations) (length numbers))

    abbrev jobs : List Refusal
    jobs = jobs_faults slots 2 0 0 (jobs_of numbers)

    all : flat_faults sheet rations numbers ≡ heads ++ jobs
    unfolding value_faults head_faults sheet_from
    all = refl

    pub value_head : (h.number ≡ 0 → ⊥) → h ≡ first_refusal (flat_faults sheet rations numbers)
    value_head n = e ∙ first_left heads jobs (λ z. n (ap (λ r. r.number) e ∙ z)) ∙ ap first_refusal (sym all)

    module _ (z : h.number ≡ 0) where
      none : heads ≡ []
      none = numbered_head_faults (head slots blowers wake) rations (eqb (fields * rations) (length numbers))
          (sym (ap (λ r. r.number) e) ∙ z)

      pub value_range : HeadInRange (head slots blowers wake) rations (eqb (fields * rations) (length numbers))
      value_range = in_range_head_faults (head slots blowers wake) rations (eqb (fields * rations) (length numbers)) none

      pub value_agrees : fields * rations ≡ length numbers
      value_agrees = eqb-true (fields * rations) (length numbers) value_range.agree

      pub value_jobs : (r : Refusal)
          → r ≡ first_refusal (jobs_faults slots 2 0 0 (jobs_of (take (fields * rations) numbers)))
          → r ≡ first_refusal (flat_faults sheet rations numbers)
      value_jobs r q =
          q ∙ ap (λ xs. first_refusal (jobs_faults slots 2 0 0 (jobs_of xs)))
          (ap (λ k. take k numbers) value_agrees ∙ take-length numbers)
          ∙ sym (ap first_refusal all ∙ first_right heads jobs none)
