-- The layer's theorems: the order of plans is a total order, and two plans are the same exactly where D and, for each
-- slot, the list of fed tanks agree. Assumes nothing.
use Rattle.std.specs.Prelude.{◌≡◌, refl, ◌↔◌, ℕ, ◌<◌, get_or}
use Rattle.std.proofs.Common.{sym, ap, ◌∙◌, arith}
use Rattle.common.specs.ListLaws.{get_d_map_range}
use Rattle.plan_lines.specs.Lines.{Plan}
use Rattle.plan_order.specs.declared.Order.TheVariants.{No, Same, Before, After}
use Rattle.plan_order.specs.Order.{order_number, order_of_tanks, tanks_in, order_of_plans}
use Rattle.plan_order.specs.TotalOrder.{TotalOrder}
use Rattle.plan_order.proofs.OrderLaws.{numbers_ordered, lists_ordered, places_same, day_of, days_ordered, total}

-- The number of each answer, as callers have it.
pub answer_numbers : (order_number No ≡ 0) × (order_number Same ≡ 1) × (order_number Before ≡ 2) × (order_number After ≡ 3)
answer_numbers = (refl, refl, refl, refl)

-- A total order on plans.
pub plans_ordered : TotalOrder Plan (λ p q. order_of_plans p q ≡ Before) (λ p q. order_of_plans p q ≡ Same) (λ p q. order_of_plans p q ≡ After)
unfolding order_of_plans
plans_ordered = total days_ordered day_of

-- The same exactly where D and, for each slot, the list of fed tanks agree.
pub same_plans : (p q : Plan) → (order_of_plans p q ≡ Same) ↔ ((p.slots ≡ q.slots) × ((t : ℕ) → t < p.slots → tanks_in p t ≡ tanks_in q t))
unfolding order_of_plans tanks_in
same_plans p q = (
  λ e.
      let d = days_ordered.equal (day_of p) (day_of q) e in
      let s : p.slots ≡ q.slots = ap (λ x. x.0) d in (
        s,
        λ t l.
            sym (get_d_map_range (tanks_in p) (tanks_in p 0) p.slots t l)
            ∙ ap (λ x. get_or x.1 t (tanks_in p 0)) d
            ∙ get_d_map_range (tanks_in q) (tanks_in p 0) q.slots t (omega (arith, s, l)),
      ),
  λ h.
      rw (h.0, numbers_ordered.itself q.slots)
      (places_same order_of_tanks (tanks_in p) (tanks_in q) 0 q.slots
      (λ t l.
      ap (λ x. order_of_tanks x (tanks_in q t)) (h.1 t (omega (arith, h.0, l)))
      ∙ (lists_ordered numbers_ordered).itself (tanks_in q t))),
)
