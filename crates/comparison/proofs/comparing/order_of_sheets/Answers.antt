-- `comparison::comparing::order_of_sheets` meets its contract. Assumes nothing.
use mathlib.Core.Path.{refl, ap, ◌∙◌}
use Rattle.std.proofs.Common.{arith}
use Rattle.std.proofs.lemmas.Result.{err_from_is_err_and}
use Rattle.sheet.specs.Calls.{refused}
use Rattle.sheet.proofs.OwnCheckLaws.{bytes_read}
use Rattle.sheet.proofs.FeedSheetLaws.{err_numbered}
use Rattle.planning.proofs.DayLaws.{day_slots}
use Rattle.plan_order.specs.Order.{order_number}
use Rattle.comparison.proofs.CompareSteps.{compare_first, compare_first_held, compare_second, compare_second_held, compare_days, days_order}
use Rattle.comparison.proofs.comparing.order_of_sheets.Goals as goal

pub returns-in_err-first : goal.returns-in_err-first
unfolding refused
returns-in_err-first c =
    let p = err_from_is_err_and c.from_residual.result c.from_residual.ensures.1 in
    let e = rw c.in_err-first.was at c.read_sheet.ensures in
    rw (p.1, p.2) (compare_first c.args.a.now c.args.b.now e (err_numbered _ (bytes_read _ e)))

pub returns-in_default : goal.returns-in_default
returns-in_default c =
    let e = rw c.in_ok-first.was at c.read_sheet.ensures in
    rw c.on.ensures (compare_first_held c.args.a.now c.args.b.now e refl (rw c.in_default.is at c.day_of.ensures _ _ (bytes_read _ e) refl))

pub returns-in_err-second : goal.returns-in_err-second
unfolding refused
returns-in_err-second c =
    let p = err_from_is_err_and c.from_residual-in_err-second.result c.from_residual-in_err-second.ensures.1 in
    let e = rw c.in_ok-first.was at c.read_sheet.ensures in
    let one = rw c.in-Ok.is at c.day_of.ensures _ _ (bytes_read _ e) refl in
    let f = rw c.in_err-second.was at c.read_sheet-2.ensures in
    rw (p.1, p.2) (compare_second c.args.a.now c.args.b.now e refl one f (err_numbered _ (bytes_read _ f)))

pub returns-in_default-day_of : goal.returns-in_default-day_of
returns-in_default-day_of c =
    let e = rw c.in_ok-first.was at c.read_sheet.ensures in
    let one = rw c.in-Ok.is at c.day_of.ensures _ _ (bytes_read _ e) refl in
    let f = rw c.in_ok-second.was at c.read_sheet-2.ensures in
    rw c.on-in_default-day_of.ensures (compare_second_held c.args.a.now c.args.b.now e refl one f refl (rw c.in_default-day_of.is at c.day_of-2.ensures _ _ (bytes_read _ f) refl))

pub order_of_days-requires : goal.order_of_days-requires
order_of_days-requires c =
    let e = rw c.in_ok-first.was at c.read_sheet.ensures in
    omega (arith, day_slots (rw c.in-Ok.is at c.day_of.ensures _ _ (bytes_read _ e) refl))

pub returns : goal.returns
returns c =
    let e = rw c.in_ok-first.was at c.read_sheet.ensures in
    let one = rw c.in-Ok.is at c.day_of.ensures _ _ (bytes_read _ e) refl in
    let f = rw c.in_ok-second.was at c.read_sheet-2.ensures in
    let other = rw c.in-Ok-day_of.is at c.day_of-2.ensures _ _ (bytes_read _ f) refl in
    compare_days c.args.a.now c.args.b.now e refl one f refl other (ap order_number (c.order_of_days.ensures ∙ days_order one other))
