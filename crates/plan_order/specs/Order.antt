-- The order of plans (request 109): smaller D first, then at the first slot that differs the smaller list of fed tanks.
-- Definitions only. Assumes nothing.
use Rattle.std.specs.Prelude.{cond, List, [], ◌∷◌, map, ℕ, ltb}
use Rattle.common.specs.Lists.{range, zip_with}
use Rattle.plan_lines.specs.Lines.{Plan, fed_in}
use Rattle.plan_order.specs.declared.Order.{Order}
use Rattle.plan_order.specs.declared.Order.TheVariants.{No, Same, Before, After}

-- The answer ------------------------------------------------------------------------

-- the number of each word that a comparison answers: no where a sheet is refused, otherwise same, before or after, said
-- of the first sheet
abbrev pub order_number : Order → ℕ
order_number No = 0
order_number Same = 1
order_number Before = 2
order_number After = 3

-- Two numbers, two lists --------------------------------------------------------------

-- the smaller number first
unfoldable pub order_of_numbers : ℕ → ℕ → Order
order_of_numbers x y = cond (ltb x y) Before (cond (ltb y x) After Same)

-- what the first comparison answers; where that is same, what the next one answers
abbrev pub then_by : Order → Order → Order
then_by Same next = next
then_by No next = No
then_by Before next = Before
then_by After next = After

-- at the first place that differs the smaller first, a list that ends first being smaller
module _ {A : Type 0} (order : A → A → Order) where
  unfoldable pub order_of_lists : List A → List A → Order
  order_of_lists [] [] = Same
  order_of_lists [] (y ∷ ys) = Before
  order_of_lists (x ∷ xs) [] = After
  order_of_lists (x ∷ xs) (y ∷ ys) = then_by (order x y) (order_of_lists xs ys)

-- the tanks fed in two slots, number by number
abbrev pub order_of_tanks : List ℕ → List ℕ → Order
order_of_tanks = order_of_lists order_of_numbers

-- for each slot a list: at the first slot that differs the smaller list
abbrev pub order_of_slots : List (List ℕ) → List (List ℕ) → Order
order_of_slots = order_of_lists order_of_tanks

-- Two plans ---------------------------------------------------------------------------

-- the tanks fed in slot t + 1, in sheet order
unfoldable pub tanks_in : Plan → ℕ → List ℕ
tanks_in p t = map (λ r. r.0) (fed_in t (zip_with (λ a c. (a, c)) p.tanks p.placing))

-- for each slot the list of fed tanks
abbrev pub fed_tanks : Plan → List (List ℕ)
fed_tanks p = map (tanks_in p) (range 0 p.slots)

-- smaller D first, then at the first slot that differs the smaller list
unfoldable pub order_of_plans : Plan → Plan → Order
order_of_plans p q = then_by (order_of_numbers p.slots q.slots) (order_of_slots (fed_tanks p) (fed_tanks q))
