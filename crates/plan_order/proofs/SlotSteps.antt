-- How the tanks of two slots are compared: one tank more of each. Assumes nothing.
use mathlib.Core.Path.{◌≡◌, refl, sym, ap, ap₂, ◌∙◌}
use mathlib.Core.Logic.{◌≢◌}
use mathlib.Core.Bool.{false, true}
use mathlib.Core.List.{List, [], ◌∷◌, map}
use Prim.Native.Nat.{ℕ, ◌+◌, ◌-◌, ◌^◌, ◌<◌}
use native.Mathlib.Omega.{arith}
use lib.Count.{count_trailing_zeros}
use Rattle.bits.specs.Lowest.{Lowest}
use Rattle.checks.specs.Limits.{max_rations}
use Rattle.plan_lines.specs.Inputs.{tank_at}
use Rattle.plan_lines.specs.SetBits.{set_bits_zero, set_bits_lowest}
use Rattle.plan_order.specs.declared.Order.{Order}
use Rattle.plan_order.specs.declared.Order.TheVariants.{Same, Before, After}
use Rattle.plan_order.specs.Order.{order_of_numbers, then_by, order_of_lists, order_of_tanks}
use Rattle.plan_order.specs.Clauses.{differs, tanks_of_word}
use Rattle.plan_order.proofs.OrderLaws.{same_of, then_differs}

-- the tanks of the bits taken so far are the same, and `rest` and `other_rest` have the others
pub record Comparing (numbers others : List ℕ) (word other rest other_rest : ℕ) : Type 0 where
  pub rest_fits : rest < 2 ^ 64
  pub other_fits : other_rest < 2 ^ 64
  pub to_do : order_of_tanks (tanks_of_word numbers word) (tanks_of_word others other) ≡ order_of_tanks (tanks_of_word numbers rest) (tanks_of_word others other_rest)

no_tanks : (numbers : List ℕ) {w : ℕ} → w ≡ 0 → tanks_of_word numbers w ≡ []
no_tanks numbers {w} e = ap (tanks_of_word numbers) e ∙ ap (map (tank_at numbers)) (set_bits_zero 0 max_rations)

-- the lowest bit's tank, and the others
some_tank : (numbers : List ℕ) {w : ℕ} → w < 2 ^ 64 → w ≢ 0
    → tanks_of_word numbers w ≡ tank_at numbers (0 + count_trailing_zeros 64 w) ∷ tanks_of_word numbers (w - 2 ^ count_trailing_zeros 64 w)
some_tank numbers {w} fits some = ap (map (tank_at numbers)) (set_bits_lowest 64 0 w fits some)

lowest_tank : (numbers : List ℕ) {w j : ℕ} → w < 2 ^ 64 → w ≢ 0 → Lowest w j → tanks_of_word numbers w ≡ tank_at numbers j ∷ tanks_of_word numbers (w - 2 ^ j)
lowest_tank numbers {w} {j} fits some l = some_tank numbers fits some ∙ at (0 + count_trailing_zeros 64 w) (count_trailing_zeros 64 w) (omega (arith, l.least)) (sym l.least)
  where
    at : (y z : ℕ) → y ≡ j → z ≡ j → tank_at numbers y ∷ tanks_of_word numbers (w - 2 ^ z) ≡ tank_at numbers j ∷ tanks_of_word numbers (w - 2 ^ j)
    at y z p q = rw (p, q)

module _ (numbers others : List ℕ) (word other : ℕ) where
  abbrev order : Order
  order = order_of_tanks (tanks_of_word numbers word) (tanks_of_word others other)

  pub comparing_begin : word < 2 ^ 64 → other < 2 ^ 64 → Comparing numbers others word other word other
  comparing_begin a b = record { rest_fits = a; other_fits = b; to_do = refl }

  module _ {rest other_rest : ℕ} (c : Comparing numbers others word other rest other_rest) where
    -- one list ends, or both
    pub both_end : rest ≡ 0 → other_rest ≡ 0 → Same ≡ order
    unfolding order_of_lists
    both_end e f = sym (c.to_do ∙ ap₂ order_of_tanks (no_tanks numbers e) (no_tanks others f))

    pub first_ends : rest ≡ 0 → other_rest ≢ 0 → Before ≡ order
    unfolding order_of_lists
    first_ends e n = sym (c.to_do ∙ ap₂ order_of_tanks (no_tanks numbers e) (some_tank others c.other_fits n))

    pub second_ends : rest ≢ 0 → other_rest ≡ 0 → After ≡ order
    unfolding order_of_lists
    second_ends n f = sym (c.to_do ∙ ap₂ order_of_tanks (some_tank numbers c.rest_fits n) (no_tanks others f))

    -- a tank of each
    module _ (n : rest ≢ 0) (m : other_rest ≢ 0) {i j : ℕ} (a : Lowest rest i) (b : Lowest other_rest j) {x : Order} (e : x ≡ order_of_numbers (tank_at numbers i) (tank_at others j)) where
      next : order ≡ then_by x (order_of_tanks (tanks_of_word numbers (rest - 2 ^ i)) (tanks_of_word others (other_rest - 2 ^ j)))
      unfolding order_of_lists
      next =
          c.to_do ∙ ap₂ order_of_tanks (lowest_tank numbers c.rest_fits n a) (lowest_tank others c.other_fits m b)
          ∙ ap (λ y. then_by y (order_of_tanks (tanks_of_word numbers (rest - 2 ^ i)) (tanks_of_word others (other_rest - 2 ^ j)))) (sym e)

      pub tanks_differ : differs x ≡ true → x ≡ order
      tanks_differ f = sym (next ∙ then_differs x _ f)

      pub comparing_more : differs x ≡ false → {rest' other_rest' : ℕ} → rest' ≡ rest - 2 ^ i → other_rest' ≡ other_rest - 2 ^ j → Comparing numbers others word other rest' other_rest'
      comparing_more f {rest'} {other_rest'} p q =
          record {
            rest_fits = omega (arith, c.rest_fits);
            other_fits = omega (arith, c.other_fits);
            to_do = next ∙ ap (λ y. then_by y (order_of_tanks (tanks_of_word numbers (rest - 2 ^ i)) (tanks_of_word others (other_rest - 2 ^ j)))) (same_of x f)
                ∙ ap₂ (λ y z. order_of_tanks (tanks_of_word numbers y) (tanks_of_word others z)) (sym p) (sym q);
          }
