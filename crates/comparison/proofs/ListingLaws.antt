-- Why the order of two plans can be read off their listings. Assumes nothing.
use Rattle.std.specs.Prelude.{◌≡◌, refl, ◌↔◌, Bool, true, false, cond, List, [], ◌∷◌, ◌++◌, map, ℕ, suc, ◌<◌, eqb}
use Rattle.std.proofs.Common.{sym, ap, ◌∙◌, arith}
use Rattle.common.specs.Lists.{range, keep, flat_map, zip_with}
use Rattle.plan_lines.specs.Lines.{Line, Plan, feed_line, slot_lines, feed_lines}
use Rattle.plan_order.specs.declared.Order.TheVariants.{Same}
use Rattle.plan_order.specs.Order.{tanks_in, order_of_plans}
use Rattle.plan_order.proofs.WordLaws.{tanks_on_lines, lines_by_tank}
use Rattle.plan_order.proofs.Theorems.{same_plans}
use Rattle.planning.specs.ReadListing.{in_slot}
use Rattle.planning.proofs.ListLaws.{map_flat_map, flat_map_range_cong}
use Rattle.planning.proofs.FeedLineLaws.{lines_in_slot}
use Rattle.comparison.specs.OnListings.{slot_and_tank}

-- a tank, with slot t + 1
abbrev with_slot : ℕ → ℕ → ℕ × ℕ
with_slot t a = (suc t, a)

-- Feed lines of a slot ------------------------------------------------------------------

-- of lines with their slots and tanks alone
abbrev tanks_at : ℕ → List (ℕ × ℕ) → List ℕ
tanks_at t xs = map (λ x. x.1) (keep (λ x. eqb x.0 t) xs)

tanks_in_slot : (t : ℕ) (ls : List Line) → map (λ l. l.c) (in_slot t ls) ≡ tanks_at t (map slot_and_tank ls)
unfolding in_slot
tanks_in_slot t [] = refl
tanks_in_slot t (l ∷ ls) = go (eqb l.a t) (tanks_in_slot t ls)
  where
    go : (b : Bool) → map (λ l. l.c) (keep (λ l. eqb l.a t) ls) ≡ tanks_at t (map slot_and_tank ls) → map (λ l. l.c) (cond b (l ∷ []) [] ++ keep (λ l. eqb l.a t) ls)
        ≡ map (λ x. x.1) (cond b ((l.a, l.c) ∷ []) [] ++ keep (λ x. eqb x.0 t) (map slot_and_tank ls))
    go true ih = ap (λ (xs : List ℕ). l.c ∷ xs) ih
    go false ih = ih

-- Feed lines of a plan --------------------------------------------------------------------

abbrev lines_for : Plan → List Line
lines_for p = feed_lines p.slots p.tanks p.placing

pub tanks_listed_lem : (p : Plan) (t : ℕ) → t < p.slots → map (λ l. l.c) (in_slot (suc t) (lines_for p)) ≡ tanks_in p t
tanks_listed_lem p t l = ap (map (λ l. l.c)) (lines_in_slot p.slots p.tanks p.placing t l) ∙ tanks_on_lines p t

-- slot by slot, the tanks fed
pairs_listed : (p : Plan) → map slot_and_tank (lines_for p) ≡ flat_map (λ t. map (with_slot t) (tanks_in p t)) (range 0 p.slots)
unfolding feed_lines feed_line
pairs_listed p =
    map_flat_map (λ t. slot_lines t (zip_with (λ a c. (a, c)) p.tanks p.placing)) slot_and_tank (range 0 p.slots)
    ∙ flat_map_range_cong 0 p.slots (λ t a b. lines_by_tank slot_and_tank (with_slot t) p t (λ k r. refl))

-- The same exactly where D agrees, and the slots and tanks of the feed lines.
pub same_listed : (p q : Plan)
    → (order_of_plans p q ≡ Same) ↔ ((p.slots ≡ q.slots) × (map slot_and_tank (lines_for p) ≡ map slot_and_tank (lines_for q)))
same_listed p q = (
  λ e.
      let h = (same_plans p q).0 e in (
        h.0,
        pairs_listed p
            ∙ flat_map_range_cong 0 p.slots (λ t a b. ap (map (with_slot t)) (h.1 t (omega (arith, b))))
            ∙ ap (λ n. flat_map (λ t. map (with_slot t) (tanks_in q t)) (range 0 n)) h.0
            ∙ sym (pairs_listed q),
      ),
  λ h.
      (same_plans p q).1 (
        h.0,
        λ t l.
            sym (tanks_listed_lem p t l) ∙ tanks_in_slot (suc t) (lines_for p) ∙ ap (tanks_at (suc t)) h.1
            ∙ sym (tanks_in_slot (suc t) (lines_for q)) ∙ tanks_listed_lem q t (omega (arith, l, h.0)),
      ),
)
