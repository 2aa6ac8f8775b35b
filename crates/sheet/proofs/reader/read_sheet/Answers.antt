-- `sheet::reader::read_sheet` meets its contract: each return is the first refusal that is there, or the sheet's numbers. Assumes nothing.
use mathlib.Core.Path.{refl, sym, ap, ◌∙◌}
use Prim.Native.Nat.{◌-◌, ◌*◌, ◌/◌}
use lib.ListN.{length}
use Rattle.std.proofs.Common.{arith}
use Rattle.std.proofs.lemmas.Result.{err_from_is_err_and}
use Rattle.common.specs.BufferLaws.{length_padded}
use Rattle.line.specs.Layout.{fields, line_bytes}
use Rattle.checks.specs.Limits.{max_rations}
use Rattle.checks.specs.Sheet.{line_count, job_at, numbers_to}
use Rattle.checks.specs.NumbersLaws.{length_numbers_to}
use Rattle.checks.proofs.VerdictLaws.{ok_verdict, err_verdict}
use Rattle.sheet.proofs.FeedSheetLaws.{accepted_of_read}
use Rattle.sheet.proofs.OwnCheckLaws.{bytes_read}
use Rattle.sheet.proofs.ReadSteps.{form_refused, form_long, head_read, head_refused, head_passed, head_agrees, jobs_refused, read_accepted}
use Rattle.sheet.proofs.reader.read_sheet.Goals as goal

pub returns-in_err-form_refusal : goal.returns-in_err-form_refusal
returns-in_err-form_refusal c =
    let p = err_from_is_err_and c.from_residual.result c.from_residual.ensures.1 in
    let v = err_verdict _ _ (sym c.in_err-form_refusal.was ∙ c.form_refusal.ensures) in
    rw (p.1, p.2) (form_refused c.args.b.now _ v.0 v.1)

pub field_number-slots-requires : goal.field_number-slots-requires
field_number-slots-requires c = omega (arith, form_long c.args.b.now _ refl (ok_verdict _ (sym c.in_ok-form_refusal.was ∙ c.form_refusal.ensures)))

pub field_number-blowers-requires : goal.field_number-blowers-requires
field_number-blowers-requires c = omega (arith, form_long c.args.b.now _ refl (ok_verdict _ (sym c.in_ok-form_refusal.was ∙ c.form_refusal.ensures)))

pub field_number-wake-requires : goal.field_number-wake-requires
field_number-wake-requires c = omega (arith, form_long c.args.b.now _ refl (ok_verdict _ (sym c.in_ok-form_refusal.was ∙ c.form_refusal.ensures)))

pub field_number-rations-requires : goal.field_number-rations-requires
field_number-rations-requires c = omega (arith, form_long c.args.b.now _ refl (ok_verdict _ (sym c.in_ok-form_refusal.was ∙ c.form_refusal.ensures)))

pub overflow_sub-n : goal.overflow_sub-n
overflow_sub-n c = omega (arith, form_long c.args.b.now _ refl (ok_verdict _ (sym c.in_ok-form_refusal.was ∙ c.form_refusal.ensures)))

pub returns-in_err-head_refusal : goal.returns-in_err-head_refusal
unfolding line_count
returns-in_err-head_refusal c = let b = c.args.b.now in
    let z = ok_verdict _ (sym c.in_ok-form_refusal.was ∙ c.form_refusal.ensures) in
    let d = head_read b (form_long b _ refl z) c.field_number-slots.ensures c.field_number-blowers.ensures c.field_number-wake.ensures
    c.field_number-rations.ensures in
    let p = err_from_is_err_and c.from_residual-in_err-head_refusal.result c.from_residual-in_err-head_refusal.ensures.1 in
    let v = err_verdict _ _ (sym c.in_err-head_refusal.was ∙ c.head_refusal.ensures) in
    rw (p.1, p.2) (head_refused b _ refl z d _ v.0 v.1)

pub ration_numbers-numbers-requires : goal.ration_numbers-numbers-requires
unfolding line_count
ration_numbers-numbers-requires c = let b = c.args.b.now in
    let z = ok_verdict _ (sym c.in_ok-form_refusal.was ∙ c.form_refusal.ensures) in
    let d = head_read b (form_long b _ refl z) c.field_number-slots.ensures c.field_number-blowers.ensures c.field_number-wake.ensures
    c.field_number-rations.ensures in
    let y = ok_verdict _ (sym c.in_ok-head_refusal.was ∙ c.head_refusal.ensures) in
    (omega (arith, head_agrees b _ refl z d _ refl y, (head_passed b _ refl z d _ refl y).rations), omega (arith, form_long b _ refl z))

pub rations_refusal-requires : goal.rations_refusal-requires
unfolding line_count
rations_refusal-requires c = let b = c.args.b.now in
    let z = ok_verdict _ (sym c.in_ok-form_refusal.was ∙ c.form_refusal.ensures) in
    let d = head_read b (form_long b _ refl z) c.field_number-slots.ensures c.field_number-blowers.ensures c.field_number-wake.ensures
    c.field_number-rations.ensures in
    let y = ok_verdict _ (sym c.in_ok-head_refusal.was ∙ c.head_refusal.ensures) in
    let n = length b / line_bytes - 1 in
    let few = (head_passed b _ refl z d _ refl y).rations in
    let a = head_agrees b _ refl z d _ refl y in (
      omega (arith, a, few),
      omega (
        arith,
        a,
        few,
        ap length c.ration_numbers-numbers.ensures,
        length_padded (fields * max_rations) (numbers_to (job_at b) n)
            (omega (arith, a, few, length_numbers_to (job_at b) n)),
      ),
    )

pub returns-in_err-rations_refusal : goal.returns-in_err-rations_refusal
unfolding line_count
returns-in_err-rations_refusal c = let b = c.args.b.now in
    let z = ok_verdict _ (sym c.in_ok-form_refusal.was ∙ c.form_refusal.ensures) in
    let d = head_read b (form_long b _ refl z) c.field_number-slots.ensures c.field_number-blowers.ensures c.field_number-wake.ensures
    c.field_number-rations.ensures in
    let y = ok_verdict _ (sym c.in_ok-head_refusal.was ∙ c.head_refusal.ensures) in
    let p = err_from_is_err_and c.from_residual-in_err-rations_refusal.result c.from_residual-in_err-rations_refusal.ensures.1 in
    let v = err_verdict _ _ (sym c.in_err-rations_refusal.was ∙ c.rations_refusal.ensures) in
    rw (p.1, p.2) (jobs_refused b _ refl z d _ refl y _ refl _ c.ration_numbers-numbers.ensures _ v.0 v.1)

pub invariant_of-result : goal.invariant_of-result
unfolding line_count
invariant_of-result c = let b = c.args.b.now in
    let z = ok_verdict _ (sym c.in_ok-form_refusal.was ∙ c.form_refusal.ensures) in
    let d = head_read b (form_long b _ refl z) c.field_number-slots.ensures c.field_number-blowers.ensures c.field_number-wake.ensures
    c.field_number-rations.ensures in
    let y = ok_verdict _ (sym c.in_ok-head_refusal.was ∙ c.head_refusal.ensures) in
    let x = ok_verdict _ (sym c.in_ok-rations_refusal.was ∙ c.rations_refusal.ensures) in
    record { accepted = accepted_of_read (bytes_read b (read_accepted b _ refl z d _ refl y _ refl _ c.ration_numbers-numbers.ensures _ refl x)) refl }

pub returns : goal.returns
unfolding line_count
returns c = let b = c.args.b.now in
    let z = ok_verdict _ (sym c.in_ok-form_refusal.was ∙ c.form_refusal.ensures) in
    let d = head_read b (form_long b _ refl z) c.field_number-slots.ensures c.field_number-blowers.ensures c.field_number-wake.ensures
    c.field_number-rations.ensures in
    let y = ok_verdict _ (sym c.in_ok-head_refusal.was ∙ c.head_refusal.ensures) in
    let x = ok_verdict _ (sym c.in_ok-rations_refusal.was ∙ c.rations_refusal.ensures) in
    read_accepted b _ refl z d _ refl y _ refl _ c.ration_numbers-numbers.ensures _ refl x
