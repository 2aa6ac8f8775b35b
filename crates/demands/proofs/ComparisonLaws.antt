-- What a comparison answers: which is held for want of blowers, and of two sheets that are planned which comes first.
-- Assumes nothing.
use Rattle.std.specs.Prelude.{◌≡◌, refl, ◌⊎◌, ◌↔◌, Bool, true, false, List, [], ◌++◌, ℕ, zero, suc, ◌≤◌, length}
use Rattle.std.proofs.Common.{sym, ap, ap₂, ◌∙◌, inl, inr, arith, ne_eqb}
use Rattle.std.proofs.lemmas.Bool.{false≢true}
use Rattle.checks.specs.declared.Refusal.{Refusal}
use Rattle.checks.specs.Refusals.{no_placing}
use Rattle.checks.specs.Sheet.{sheet_of}
use Rattle.checks.specs.Checks.{first_refusal, faults}
use Rattle.sheet.specs.Calls.{accepted, reading_of}
use Rattle.sheet.proofs.CallLaws.{reading_of_accepted, faults_reading_of}
use Rattle.sheet.proofs.OwnCheckLaws.{bytes_read, refused_before, not_held}
use Rattle.plan_lines.specs.Sizes.{plan_bytes}
use Rattle.planning.specs.Problem.{Problem, alone, ProblemInRange, can_be_planned, counts_of, plan_for, listing_of}
use Rattle.planning.specs.Planning.{held_faults, plan_refusal, short_plan}
use Rattle.planning.specs.ReadListing.{lines_of}
use Rattle.planning.proofs.ProblemLaws.{planned_may, may_planned, counts_whole}
use Rattle.planning.proofs.CallAnswers.{room_plan}
use Rattle.plan_order.specs.declared.Order.{Order}
use Rattle.plan_order.specs.declared.Order.TheVariants.{No, Same, Before, After}
use Rattle.plan_order.specs.Order.{order_number, order_of_plans}
use Rattle.plan_order.specs.TotalOrder.{TotalOrder}
use Rattle.plan_order.proofs.OrderLaws.{day_of, days_ordered, total, total_as, number_tells}
use Rattle.comparison.specs.Comparison.{compare_refusal, order_of, compared_of}
use Rattle.comparison.specs.OnListings.{slots_and_tanks, order_of_listings}
use Rattle.comparison.proofs.Theorems.{order_of_listings_lem, same_on_listings, same_counts}
use Rattle.demands.specs.Answers.{NotZero}
use Rattle.demands.specs.Outcome.{NoneSound}
use Rattle.demands.proofs.OutcomeLaws.{written_listing}
use Rattle.demands.proofs.AnswerLaws.{bytes_in_range}
use Rattle.demands.specs.ByMethod.{settled}
use Rattle.demands.proofs.ByMethodLaws.{settled_counts_lem}
use Rattle.demands.specs.Comparison.{PlannedSheet, Answered, lines_planned}

module _ (p : Problem) (g : ProblemInRange p) where
  none_sound_held : NoneSound p → can_be_planned p ≡ false
  none_sound_held h = go (can_be_planned p) refl
    where
      go : (c : Bool) → can_be_planned p ≡ c → can_be_planned p ≡ false
      go true e = absurd (let r = planned_may p g e in h r.0 r.1)
      go false e = e

  held_none_sound : can_be_planned p ≡ false → NoneSound p
  held_none_sound e q h = false≢true (sym e ∙ may_planned p g q h)

  planned_not_none : can_be_planned p ≡ true → ¬ NoneSound p
  planned_not_none e h = false≢true (sym (none_sound_held h) ∙ e)

number_accepted : (b : List ℕ) → faults b ≡ [] → (reading_of b).number ≡ 0
unfolding accepted
number_accepted b f = ap (λ r. r.number) (reading_of_accepted b f)

-- a sheet refused by 1 to 9 or 13 is not held for want of blowers
refused_not_held : (b : List ℕ) (rest : List Refusal) → ((reading_of b).number ≡ 0 → ⊥) → (first_refusal (faults b ++ rest)).number ≡ no_placing → ⊥
refused_not_held b rest k e =
    let h = bytes_read b refl in
    not_held h k (sym (ap (λ r. r.number) (refused_before h k rest)) ∙ e)

-- A comparison is held exactly where its first sheet is well-formed and has no sound placing, or the first can be
-- planned and so holds of the second.
pub comparison_held_iff : (a b : List ℕ) → let p = alone (sheet_of a) in let q = alone (sheet_of b) in
    ((compared_of a b).number ≡ no_placing) ↔ ((faults a ≡ []) × (NoneSound p ⊎ ((¬ NoneSound p) × (faults b ≡ []) × NoneSound q)))
unfolding compared_of compare_refusal first_refusal
comparison_held_iff a b = go (reading_of a).number (can_be_planned p) (reading_of b).number (can_be_planned q) refl refl refl refl
  where
    p : Problem
    p = alone (sheet_of a)

    q : Problem
    q = alone (sheet_of b)

    go : (x : ℕ) (c : Bool) (y : ℕ) (d : Bool) → (reading_of a).number ≡ x → can_be_planned p ≡ c → (reading_of b).number ≡ y → can_be_planned q ≡ d
        → ((compared_of a b).number ≡ no_placing) ↔ ((faults a ≡ []) × (NoneSound p ⊎ ((¬ NoneSound p) × (faults b ≡ []) × NoneSound q)))
    go (suc x) c y d k l m n = (
      λ e. absurd (refused_not_held a _ (λ z. omega (arith, k, z)) e),
      λ h. absurd (omega (arith, k, number_accepted a h.0)),
    )
    go zero false y d k l m n =
        let f = faults_reading_of a k in
        (λ e. (f, inl (held_none_sound p (bytes_in_range a f) l)), λ h. rw (f, l))
    go zero true (suc y) d k l m n =
        let f = faults_reading_of a k in
        (λ e. absurd (refused_not_held b (held_faults q) (λ z. omega (arith, m, z)) (rw (f, l) at e)), λ h. absurd (none f h.1))
      where
        none : faults a ≡ [] → NoneSound p ⊎ ((¬ NoneSound p) × (faults b ≡ []) × NoneSound q) → ⊥
        none f (inl h) = planned_not_none p (bytes_in_range a f) l h
        none f (inr h) = omega (arith, m, number_accepted b h.1)
    go zero true zero false k l m n =
        let f = faults_reading_of a k in
        let g = faults_reading_of b m in
        (λ e. (f, inr (planned_not_none p (bytes_in_range a f) l, g, held_none_sound q (bytes_in_range b g) n)), λ h. rw (f, l, g, n))
    go zero true zero true k l m n =
        let f = faults_reading_of a k in
        let g = faults_reading_of b m in
        (λ e. absurd (let z : 0 ≡ no_placing = rw (f, l, g, n) at e in omega arith), λ h. absurd (none f h.1))
      where
        none : faults a ≡ [] → NoneSound p ⊎ ((¬ NoneSound p) × (faults b ≡ []) × NoneSound q) → ⊥
        none f (inl h) = planned_not_none p (bytes_in_range a f) l h
        none f (inr h) = planned_not_none q (bytes_in_range b h.1) n h.2

-- no on every refusal
pub no_order : (a b : List ℕ) → NotZero (compared_of a b).number → (compared_of a b).order ≡ order_number No
unfolding compared_of order_of
no_order a b h = rw (ne_eqb (compare_refusal a b).number 0 h)

-- Two sheets that are planned -------------------------------------------------------------

abbrev problem : PlannedSheet → Problem
problem a = alone (sheet_of a.bytes)

in_range : (a : PlannedSheet) → ProblemInRange (problem a)
in_range a = bytes_in_range a.bytes a.formed

can : (a : PlannedSheet) → can_be_planned (problem a) ≡ true
can a = may_planned (problem a) (in_range a) a.has.0 a.has.1

both_planned : (a b : PlannedSheet) → compare_refusal a.bytes b.bytes ≡ record { number = 0; line = 0 }
unfolding compare_refusal first_refusal
both_planned a b = rw (a.formed, can a, b.formed, can b)

pub comparison_number : (a b : PlannedSheet) → (compared_of a.bytes b.bytes).number ≡ 0
unfolding compared_of
comparison_number a b = ap (λ r. r.number) (both_planned a b)

order_is : (a b : PlannedSheet) → (compared_of a.bytes b.bytes).order ≡ order_number (order_of_plans (plan_for (problem a)) (plan_for (problem b)))
unfolding compared_of order_of
order_is a b = rw (both_planned a b)

-- an answer by its number, and as a word
answered : (x : Order) (a b : PlannedSheet) → (order_of_plans (plan_for (problem a)) (plan_for (problem b)) ≡ x) ↔ Answered x a b
answered x a b = (λ e. order_is a b ∙ ap order_number e, λ e. number_tells _ x (sym (order_is a b) ∙ e))

lines_listed_lem : (a : PlannedSheet) (listing : List ℕ) → plan_bytes ≤ length listing → lines_planned a.bytes listing ≡ lines_of (listing_of (problem a))
unfolding plan_refusal
lines_listed_lem a listing l = ap lines_of (written_listing a.formed (problem a) (in_range a) (short_plan listing) (room_plan listing l) listing)

pub comparison_listed : (a b : PlannedSheet) (listing other : List ℕ) → plan_bytes ≤ length listing → plan_bytes ≤ length other →
    let s = sheet_of a.bytes in let t = sheet_of b.bytes in let ls = lines_planned a.bytes listing in let ks = lines_planned b.bytes other in
    ((compared_of a.bytes b.bytes).order ≡ order_number (order_of_listings s.slots ls t.slots ks))
    × (((compared_of a.bytes b.bytes).order ≡ order_number Same) ↔ ((s.slots ≡ t.slots) × (slots_and_tanks ls ≡ slots_and_tanks ks)))
comparison_listed a b listing other l k =
    let p = problem a in
    let q = problem b in
    let x = lines_listed_lem a listing l in
    let y = lines_listed_lem b other k in
    let e = answered Same a b in
    let f = same_on_listings p q (in_range a) (in_range b) (can a) (can b) in (
      order_is a b ∙ ap order_number (order_of_listings_lem p q (in_range a) (in_range b) (can a) (can b))
          ∙ ap₂ (λ ls ks. order_number (order_of_listings p.sheet.slots ls q.sheet.slots ks)) (sym x) (sym y),
      (
        λ z. let h = f.0 (e.1 z) in (h.0, ap slots_and_tanks x ∙ h.1 ∙ sym (ap slots_and_tanks y)),
        λ h. e.0 (f.1 (h.0, sym (ap slots_and_tanks x) ∙ h.1 ∙ ap slots_and_tanks y)),
      ),
    )

pub comparison_ordered : TotalOrder PlannedSheet (Answered Before) (Answered Same) (Answered After)
unfolding order_of_plans
comparison_ordered = total_as (total days_ordered (λ a. day_of (plan_for (problem a)))) (answered Before) (answered Same) (answered After)

pub comparison_counts : (a b : PlannedSheet) → Answered Same a b
    → ((sheet_of a.bytes).slots ≡ (sheet_of b.bytes).slots) × ((settled (problem a)).low ≡ (settled (problem b)).low)
comparison_counts a b e =
    let h = same_counts (problem a) (problem b) (in_range a) (in_range b) (can a) (can b) ((answered Same a b).1 e) in
    (h.0, counts a ∙ h.1 ∙ sym (counts b))
  where
    counts : (a : PlannedSheet) → (settled (problem a)).low ≡ counts_of (problem a)
    counts a = settled_counts_lem (problem a) (in_range a) (can a) ∙ sym (counts_whole (problem a) (in_range a) (can a) refl)
