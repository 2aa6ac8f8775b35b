-- The layer's theorems, of two problems that are planned: the order of their plans can be read off the listings, and
-- plans that are the same have the same counts. That it is a total order is in Theorems.antt of `plan_order`; what the
-- call answers is in the crate `demands`. Assumes nothing.
use Rattle.std.specs.Prelude.{◌≡◌, ◌↔◌, true, ℕ, suc, ◌<◌, get_or}
use Rattle.std.proofs.Math.Path.{sym, ap}
use Rattle.std.proofs.Common.{ap₂, ◌∙◌, arith}
use mathlib.Core.List.{map}
use Rattle.std.proofs.Math.ListN.{length}
use Rattle.std.proofs.lemmas.List.{length-map}
use Rattle.std.proofs.Math.Seq.{ext_get_or}
use Rattle.plan_lines.specs.Lines.{fed_in, feed_lines}
use Rattle.plan_order.specs.declared.Order.TheVariants.{Same}
use Rattle.plan_order.specs.Order.{order_of_numbers, then_by, order_of_slots, tanks_in, fed_tanks, order_of_plans}
use Rattle.plan_order.proofs.Theorems.{same_plans}
use Rattle.planning.specs.Problem.{Problem, ProblemInRange, can_be_planned, feedings_of, counts_of, plan_with, plan_for, listing_of}
use Rattle.planning.specs.ReadListing.{lines_of, tanks, feed_part, in_slot}
use Rattle.planning.proofs.ListLaws.{map_range_cong}
use Rattle.planning.proofs.SlotLineLaws.{ration_rows, length_fed_in}
use Rattle.planning.proofs.PlacingLaws.{placing_rows, tanks_placing}
use Rattle.planning.proofs.ProblemLaws.{listing_plan, feedings_sound, length_counts_of}
use Rattle.planning.proofs.WrittenLaws.{lines_plan, feed_part_plan}
use Rattle.comparison.specs.OnListings.{slot_and_tank, slots_and_tanks, tanks_listed, order_of_listings}
use Rattle.comparison.proofs.ListingLaws.{tanks_listed_lem, same_listed}

-- One problem ---------------------------------------------------------------------------

module _ (p : Problem) (g : ProblemInRange p) (can : can_be_planned p ≡ true) where
  feed_lines_lem : feed_part (lines_of (listing_of p)) ≡ feed_lines (plan_for p).slots (plan_for p).tanks (plan_for p).placing
  unfolding plan_with
  feed_lines_lem =
      ap (λ x. feed_part (lines_of x)) (listing_plan p can) ∙ ap feed_part (lines_plan p.sheet g.values (feedings_of p) (feedings_sound p g can))
      ∙ feed_part_plan p.sheet (feedings_of p)

  tanks_of_listing : tanks_listed p.sheet.slots (lines_of (listing_of p)) ≡ fed_tanks (plan_for p)
  unfolding tanks_listed plan_with
  tanks_of_listing = map_range_cong 0 p.sheet.slots (λ t a b. ap (λ ls. map (λ l. l.c) (in_slot (suc t) ls)) feed_lines_lem ∙ tanks_listed_lem (plan_for p) t (omega (arith, b)))

  -- as many tanks are fed in a slot as its count says
  count_of_tanks : (t : ℕ) → t < p.sheet.slots → get_or (counts_of p) t 0 ≡ length (tanks_in (plan_for p) t)
  unfolding counts_of tanks_in plan_with
  count_of_tanks t l =
      let sound = feedings_sound p g can in
      sym (length_fed_in p.sheet.slots t l (tanks p.sheet) (feedings_of p) (tanks_placing p.sheet (feedings_of p) sound) (placing_rows p.sheet (feedings_of p) sound))
      ∙ sym (length-map (fed_in t (ration_rows (tanks p.sheet) (feedings_of p))) (λ r. r.0))

-- Two problems --------------------------------------------------------------------------

module _ (p q : Problem) (g : ProblemInRange p) (h : ProblemInRange q) (can : can_be_planned p ≡ true) (can' : can_be_planned q ≡ true) where
  -- The order of two plans is that of their listings.
  pub order_of_listings_lem : order_of_plans (plan_for p) (plan_for q) ≡ order_of_listings p.sheet.slots (lines_of (listing_of p)) q.sheet.slots (lines_of (listing_of q))
  unfolding order_of_plans order_of_listings plan_with
  order_of_listings_lem = ap (then_by (order_of_numbers p.sheet.slots q.sheet.slots)) (sym (ap₂ order_of_slots (tanks_of_listing p g can) (tanks_of_listing q h can')))

  -- They are the same exactly where D agrees, and the slots and tanks of the feed lines.
  pub same_on_listings : (order_of_plans (plan_for p) (plan_for q) ≡ Same)
      ↔ ((p.sheet.slots ≡ q.sheet.slots) × (slots_and_tanks (lines_of (listing_of p)) ≡ slots_and_tanks (lines_of (listing_of q))))
  unfolding slots_and_tanks plan_with
  same_on_listings = (
    λ e.
        let x = (same_listed (plan_for p) (plan_for q)).0 e in
        (x.0, ap (map slot_and_tank) (feed_lines_lem p g can) ∙ x.1 ∙ sym (ap (map slot_and_tank) (feed_lines_lem q h can'))),
    λ x.
        (same_listed (plan_for p) (plan_for q)).1
        (x.0, sym (ap (map slot_and_tank) (feed_lines_lem p g can)) ∙ x.1 ∙ ap (map slot_and_tank) (feed_lines_lem q h can')),
  )

  -- Plans that are the same have the same counts, and so are the same day in the sense that the base had.
  pub same_counts : order_of_plans (plan_for p) (plan_for q) ≡ Same → (p.sheet.slots ≡ q.sheet.slots) × (counts_of p ≡ counts_of q)
  unfolding plan_with
  same_counts e =
      let x = (same_plans (plan_for p) (plan_for q)).0 e in (
        x.0,
        ext_get_or 0 (counts_of p) (counts_of q) (length_counts_of p g can ∙ x.0 ∙ sym (length_counts_of q h can'))
            (λ t l.
            let k : t < p.sheet.slots = omega (arith, l, length_counts_of p g can) in
            count_of_tanks p g can t k ∙ ap length (x.1 t k) ∙ sym (count_of_tanks q h can' t (omega (arith, k, x.0)))),
      )
