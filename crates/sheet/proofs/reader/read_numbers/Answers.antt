-- `sheet::reader::read_numbers` meets its contract. Assumes nothing.
use mathlib.Core.Path.{refl, sym, ◌∙◌}
use Rattle.std.proofs.lemmas.Result.{err_from_is_err_and}
use Rattle.checks.proofs.VerdictLaws.{ok_verdict, err_verdict}
use Rattle.sheet.proofs.FeedSheetLaws.{accepted_of_read}
use Rattle.sheet.proofs.OwnCheckLaws.{flat_checked}
use Rattle.sheet.proofs.ValueSteps.{numbers_refused, numbers_few, numbers_accepted}
use Rattle.sheet.proofs.reader.read_numbers.Goals as goal

pub returns-in_err-value_refusal : goal.returns-in_err-value_refusal
returns-in_err-value_refusal c = let a = c.args in
    let p = err_from_is_err_and c.from_residual.result c.from_residual.ensures.1 in
    let v = err_verdict _ _ (sym c.in_err-value_refusal.was ∙ c.value_refusal.ensures) in
    rw (p.1, p.2) (numbers_refused a.slots a.blowers a.wake a.rations a.numbers.now _ v.0 v.1)

pub padded_numbers-requires : goal.padded_numbers-requires
padded_numbers-requires c = let a = c.args in
    let z = ok_verdict _ (sym c.in_ok-value_refusal.was ∙ c.value_refusal.ensures) in
    numbers_few a.slots a.blowers a.wake a.rations a.numbers.now _ refl z

pub invariant_of-result : goal.invariant_of-result
invariant_of-result c = let a = c.args in
    let z = ok_verdict _ (sym c.in_ok-value_refusal.was ∙ c.value_refusal.ensures) in
    record {
      accepted = accepted_of_read (record {
        checks = flat_checked a.slots a.blowers a.wake a.rations a.numbers.now;
        is = numbers_accepted a.slots a.blowers a.wake a.rations a.numbers.now _ refl z _ c.padded_numbers.ensures;
      }) refl;
    }

pub returns : goal.returns
returns c = let a = c.args in
    let z = ok_verdict _ (sym c.in_ok-value_refusal.was ∙ c.value_refusal.ensures) in
    numbers_accepted a.slots a.blowers a.wake a.rations a.numbers.now _ refl z _ c.padded_numbers.ensures
