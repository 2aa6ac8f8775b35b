-- The comparison of two sheets: what the call answers (request 109). Definitions only. Assumes nothing.
use Rattle.std.specs.Prelude.{not, cond, Result, Ok, Err, List, ℕ, eqb}
use Rattle.checks.specs.declared.Refusal.{Refusal}
use Rattle.checks.specs.Sheet.{sheet_of}
use Rattle.checks.specs.Checks.{first_refusal, faults}
use Rattle.checks.specs.CallChecks.{comparison_checks}
use Rattle.plan_order.specs.declared.Order.{Order}
use Rattle.plan_order.specs.declared.Order.TheVariants.{No}
use Rattle.plan_order.specs.Order.{order_number, order_of_plans}
use Rattle.planning.specs.Problem.{alone, can_be_planned, plan_for}
use Rattle.comparison.specs.declared.Compared.{Compared}

-- all checks of the first sheet, 12 included, before those of the second
unfoldable pub compare_refusal : List ℕ → List ℕ → Refusal
compare_refusal a b =
    first_refusal
    (comparison_checks (faults a) (not (can_be_planned (alone (sheet_of a)))) (faults b) (not (can_be_planned (alone (sheet_of b)))))

-- no where a sheet is refused, by whatever number; otherwise which of the two plans comes first, or that they are the
-- same
unfoldable pub order_of : List ℕ → List ℕ → Order
order_of a b =
    cond (eqb (compare_refusal a b).number 0) (order_of_plans (plan_for (alone (sheet_of a))) (plan_for (alone (sheet_of b)))) No

unfoldable pub compared_of : List ℕ → List ℕ → Compared
compared_of a b =
    let r : Refusal = compare_refusal a b in
    record { number = r.number; line = r.line; order = order_number (order_of a b) }

-- an order, or a refusal, as an answer
abbrev pub as_compared : Result Order Refusal → Compared
as_compared (Ok o) = record { number = 0; line = 0; order = order_number o }
as_compared (Err f) = record { number = f.number; line = f.line; order = order_number No }
