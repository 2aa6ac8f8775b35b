-- Two plans compared by the lines of their listings alone. Definitions only. Assumes nothing.
use Rattle.std.specs.Prelude.{List, map, ℕ, suc}
use Rattle.common.specs.Lists.{range}
use Rattle.plan_lines.specs.Lines.{Line}
use Rattle.plan_order.specs.declared.Order.{Order}
use Rattle.plan_order.specs.Order.{order_of_numbers, then_by, order_of_slots}
use Rattle.planning.specs.ReadListing.{feed_part, in_slot}

-- slot and tank of a feed line
abbrev pub slot_and_tank : Line → ℕ × ℕ
slot_and_tank l = (l.a, l.c)

-- of each feed line
unfoldable pub slots_and_tanks : List Line → List (ℕ × ℕ)
slots_and_tanks ls = map slot_and_tank (feed_part ls)

-- for each slot of a day the tanks on its feed lines
unfoldable pub tanks_listed : (slots : ℕ) → List Line → List (List ℕ)
tanks_listed slots ls = map (λ t. map (λ l. l.c) (in_slot (suc t) (feed_part ls))) (range 0 slots)

-- smaller D first, then at the first slot that differs the smaller list
unfoldable pub order_of_listings : (slots : ℕ) → List Line → (slots' : ℕ) → List Line → Order
order_of_listings slots ls slots' ls' = then_by (order_of_numbers slots slots') (order_of_slots (tanks_listed slots ls) (tanks_listed slots' ls'))
