-- The tanks fed in a slot: those on its feed lines, and those of the set bits of its word. Assumes nothing.
use Rattle.std.specs.Prelude.{◌≡◌, refl, List, [], ◌∷◌, map, ℕ, suc, ◌≤◌, ◌<◌, length, get_or}
use Rattle.std.proofs.Common.{sym, ap, ap₂, ◌∙◌, map-id}
use Rattle.common.specs.Lists.{range, zip_with}
use Rattle.common.specs.ListLaws.{get_d_map_range}
use Rattle.schedules.specs.Slots.{Slots}
use Rattle.plan_lines.specs.Lines.{Line, Plan, part_at, fed_in, feed_line, slot_lines}
use Rattle.plan_lines.specs.Inputs.{tank_at, tanks_of, row_of, placing_of}
use Rattle.plan_lines.specs.SetBits.{set_bits}
use Rattle.plan_lines.specs.FeedLaws.{word_lines}
use Rattle.plan_lines.proofs.FeedLaws.{slot_lines_word}
use Rattle.plan_order.specs.Order.{tanks_in}

-- On feed lines -------------------------------------------------------------------------

module _ {A : Type 0} (g : Line → A) (h : ℕ → A) (t : ℕ) (same : (k : ℕ) (r : ℕ × Slots) → g (feed_line t k r) ≡ h r.0) where
  lines_from : (k : ℕ) (rs : List (ℕ × Slots)) → map g (zip_with (feed_line t) (range k (length rs)) rs) ≡ map h (map (λ r. r.0) rs)
  lines_from k [] = refl
  lines_from k (r ∷ rs) = ap₂ (λ (x : A) (xs : List A). x ∷ xs) (same k r) (lines_from (suc k) rs)

-- what is read off the feed lines of slot t + 1 and depends on the tank alone
pub lines_by_tank : {A : Type 0} (g : Line → A) (h : ℕ → A) (p : Plan) (t : ℕ) → ((k : ℕ) (r : ℕ × Slots) → g (feed_line t k r) ≡ h r.0)
    → map g (slot_lines t (zip_with (λ a c. (a, c)) p.tanks p.placing)) ≡ map h (tanks_in p t)
unfolding slot_lines tanks_in
lines_by_tank g h p t same = lines_from g h t same 1 (fed_in t (zip_with (λ a c. (a, c)) p.tanks p.placing))

-- the tanks fed in slot t + 1 are those on its feed lines
pub tanks_on_lines : (p : Plan) (t : ℕ) → map (λ l. l.c) (slot_lines t (zip_with (λ a c. (a, c)) p.tanks p.placing)) ≡ tanks_in p t
unfolding feed_line
tanks_on_lines p t = lines_by_tank (λ l. l.c) (λ a. a) p t (λ k r. refl) ∙ map-id (tanks_in p t)

-- In words ------------------------------------------------------------------------------

tanks_of_bits : (slot : ℕ) (numbers parts : List ℕ) (k : ℕ) (js : List ℕ) → map (λ l. l.c) (word_lines slot numbers parts k js) ≡ map (tank_at numbers) js
unfolding word_lines
tanks_of_bits slot numbers parts k [] = refl
tanks_of_bits slot numbers parts k (j ∷ js) = ap (λ (l : List ℕ). tank_at numbers j ∷ l) (tanks_of_bits slot numbers parts (suc k) js)

-- a plan of n rations whose tanks are in flat numbers and whose placing is in words
pub tanks_in_word : (p : Plan) (n : ℕ) (numbers words : List ℕ) → p.tanks ≡ tanks_of n numbers → p.placing ≡ placing_of p.slots n words
    → p.slots ≤ length words → (t : ℕ) → t < p.slots → tanks_in p t ≡ map (tank_at numbers) (set_bits 0 n (get_or words t 0))
tanks_in_word p n numbers words a b there t l =
    sym (tanks_on_lines p t)
    ∙ ap (λ ts. map (λ l. l.c) (slot_lines t (zip_with (λ a c. (a, c)) ts p.placing))) a
    ∙ ap (λ q. map (λ l. l.c) (slot_lines t (zip_with (λ a c. (a, c)) (tanks_of n numbers) q))) b
    ∙ ap (map (λ l. l.c)) (slot_lines_word p.slots words t l there numbers parts n (λ j k. get_d_map_range part 0 n j k))
    ∙ tanks_of_bits (suc t) numbers parts 1 (set_bits 0 n (get_or words t 0))
  where
    part : ℕ → ℕ
    part i = part_at t (row_of p.slots words i)

    parts : List ℕ
    parts = map part (range 0 n)
