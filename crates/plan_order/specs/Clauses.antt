-- What the functions within the crate and those for the layer above require and ensure. Definitions only. Assumes
-- nothing.
use Rattle.std.specs.Prelude.{Bool, true, false, List, map, ℕ, get_or}
use Rattle.std.specs.declared.cmp.Ordering.{Ordering}
use Rattle.std.specs.declared.cmp.Ordering.TheVariants.{Less, Equal, Greater}
use Rattle.common.specs.Lists.{range}
use Rattle.checks.specs.Limits.{max_rations}
use Rattle.plan_lines.specs.Inputs.{tank_at}
use Rattle.plan_lines.specs.SetBits.{set_bits}
use Rattle.plan_order.specs.declared.Order.{Order}
use Rattle.plan_order.specs.declared.Order.TheVariants.{No, Same, Before, After}

-- the order of two things that are no sheets, which is never no
abbrev pub as_order : Ordering → Order
as_order Less = Before
as_order Equal = Same
as_order Greater = After

-- whether the two differ, so that nothing after them decides
abbrev pub differs : Order → Bool
differs No = true
differs Same = false
differs Before = true
differs After = true

-- the tanks of the rations fed by a word, in sheet order
abbrev pub tanks_of_word : (numbers : List ℕ) → (word : ℕ) → List ℕ
tanks_of_word numbers w = map (tank_at numbers) (set_bits 0 max_rations w)

-- for each slot the tanks of the rations fed by its word
abbrev pub tanks_of_words : (slots : ℕ) → (numbers words : List ℕ) → List (List ℕ)
tanks_of_words slots numbers words = map (λ t. tanks_of_word numbers (get_or words t 0)) (range 0 slots)
