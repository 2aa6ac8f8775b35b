-- What the comparison knows of two sheets that it read and of their days, and how that makes its answer. Assumes
-- nothing.
use mathlib.Core.Path.{◌≡◌, refl, sym, ap, ap₂, ◌∙◌}
use mathlib.Core.Bool.{true, false, not}
use Rattle.std.specs.Prelude.{Result, Ok, Err}
use mathlib.Core.List.{List, [], ◌∷◌, ◌++◌, map}
use Prim.Native.Nat.{ℕ, ◌*◌, ◌≤◌, ◌<◌}
use native.Mathlib.Omega.{arith}
use lib.ListN.{length, get_or}
use borrow.Author.Tests.{ne_eqb}
use Rattle.common.specs.Buffers.{padded}
use Rattle.line.specs.Layout.{fields}
use Rattle.checks.specs.declared.Refusal.{Refusal}
use Rattle.checks.specs.Limits.{max_rations}
use Rattle.checks.specs.Refusals.{no_placing}
use Rattle.checks.specs.Sheet.{Sheet, sheet_of, numbers_of}
use Rattle.checks.specs.Checks.{fault, first_refusal, faults}
use Rattle.sheet.specs.declared.Reading.{Reading}
use Rattle.sheet.specs.Calls.{reading_of, accepted}
use Rattle.sheet.proofs.OwnCheckLaws.{bytes_read, refused_before, accepted_before}
use Rattle.stretches.specs.declared.DayPlan.{DayPlan}
use Rattle.stretches.specs.declared.HeldDay.{HeldDay}
use Rattle.plan_lines.specs.Inputs.{tank_at}
use Rattle.plan_lines.specs.SetBits.{set_bits_past}
use Rattle.plan_order.specs.declared.Order.TheVariants.{No}
use Rattle.plan_order.specs.Order.{order_number, order_of_numbers, then_by, order_of_slots, tanks_in, fed_tanks, order_of_plans}
use Rattle.plan_order.specs.Clauses.{tanks_of_word, tanks_of_words}
use Rattle.plan_order.proofs.WordLaws.{tanks_in_word}
use Rattle.planning.specs.Problem.{Problem, alone, can_be_planned, feedings_of, plan_with, plan_for}
use Rattle.planning.specs.Planning.{held_faults}
use Rattle.planning.specs.Clauses.{DayOf}
use Rattle.planning.proofs.ListLaws.{map_range_cong}
use Rattle.planning.proofs.InputLaws.{placing_of_holds, tanks_of_numbers_of}
use Rattle.planning.proofs.DayLaws.{holds, plan_fed_long}
use Rattle.comparison.specs.Comparison.{compare_refusal, order_of, compared_of}

-- ---- two days

-- the words of a planned day have the tanks of its plan
day_tanks : {p : Problem} {r : Reading} {d : DayPlan} → DayOf p r (Ok d) → tanks_of_words r.slots r.numbers d.fed ≡ fed_tanks (plan_for p)
unfolding accepted plan_with
day_tanks {p} {r} {d} h =
    ap (λ x. tanks_of_words x.slots x.numbers d.fed) h.read
    ∙ map_range_cong 0 s.slots (λ t a b. sym (in_slot_lem t (omega (arith, b))))
  where
    s : Sheet
    s = p.sheet

    n : ℕ
    n = length s.jobs

    numbers : List ℕ
    numbers = padded (fields * max_rations) (numbers_of s.jobs)

    there : s.slots ≤ length d.fed
    there = omega (arith, plan_fed_long h, h.in_range.values.head.slots.le)

    in_slot_lem : (t : ℕ) → t < s.slots → tanks_in (plan_for p) t ≡ tanks_of_word numbers (get_or d.fed t 0)
    in_slot_lem t l =
        tanks_in_word (plan_for p) n numbers d.fed (sym (tanks_of_numbers_of (fields * max_rations) s.jobs)) (sym (placing_of_holds s.slots n d.fed (feedings_of p) there (holds h))) there t l
        ∙ ap (map (tank_at numbers)) (sym (set_bits_past 0 n max_rations (get_or d.fed t 0) ((holds h).few t l) h.in_range.values.head.rations))

slots_of_lem : {p : Problem} {r : Reading} {d : Result DayPlan HeldDay} → DayOf p r d → r.slots ≡ (plan_for p).slots
unfolding accepted plan_with
slots_of_lem h = ap (λ y. y.slots) h.read

pub days_order : {p q : Problem} {r r' : Reading} {d d' : DayPlan} → DayOf p r (Ok d) → DayOf q r' (Ok d')
    → then_by (order_of_numbers r.slots r'.slots) (order_of_slots (tanks_of_words r.slots r.numbers d.fed) (tanks_of_words r'.slots r'.numbers d'.fed))
    ≡ order_of_plans (plan_for p) (plan_for q)
unfolding order_of_plans
days_order h k = ap₂ then_by (ap₂ order_of_numbers (slots_of_lem h) (slots_of_lem k)) (ap₂ order_of_slots (day_tanks h) (day_tanks k))

-- ---- the answer

planned_none : (p : Problem) → can_be_planned p ≡ true → (rest : List Refusal) → first_refusal (held_faults p ++ rest) ≡ first_refusal rest
planned_none p e rest = ap (λ y. first_refusal (fault no_placing 0 (not y) ++ rest)) e

held_first : (p : Problem) → can_be_planned p ≡ false → (rest : List Refusal) → first_refusal (held_faults p ++ rest) ≡ record { number = no_placing; line = 0 }
unfolding first_refusal
held_first p e rest = ap (λ y. first_refusal (fault no_placing 0 (not y) ++ rest)) e

nothing_more : (xs : List Refusal) → first_refusal (xs ++ []) ≡ first_refusal xs
unfolding first_refusal
nothing_more [] = refl
nothing_more (x ∷ xs) = refl

module _ (a b : List ℕ) where
  abbrev p : Problem
  p = alone (sheet_of a)

  abbrev q : Problem
  q = alone (sheet_of b)

  refused : (f : Refusal) → compare_refusal a b ≡ f → (f.number ≡ 0 → ⊥) → record { number = f.number; line = f.line; order = order_number No } ≡ compared_of a b
  unfolding compared_of order_of
  refused f e n = rw (e, ne_eqb f.number 0 n)

  module _ {r : Reading} (e : r ≡ reading_of a) where
    by_first : (r.number ≡ 0 → ⊥) → compare_refusal a b ≡ record { number = r.number; line = r.line }
    unfolding compare_refusal
    by_first n = refused_before (bytes_read a e) n (held_faults p ++ (faults b ++ held_faults q))

    pub compare_first : (r.number ≡ 0 → ⊥) → record { number = r.number; line = r.line; order = order_number No } ≡ compared_of a b
    compare_first n = refused (record { number = r.number; line = r.line }) (by_first n) n

    module _ (z : r.number ≡ 0) where
      after_first : compare_refusal a b ≡ first_refusal (held_faults p ++ (faults b ++ held_faults q))
      unfolding compare_refusal
      after_first = accepted_before (bytes_read a e) z (held_faults p ++ (faults b ++ held_faults q))

      pub compare_first_held : {d : HeldDay} → DayOf p r (Err d) → record { number = no_placing; line = 0; order = order_number No } ≡ compared_of a b
      compare_first_held h =
          refused (record { number = no_placing; line = 0 }) (after_first ∙ held_first p h.found.cannot (faults b ++ held_faults q)) (λ x. omega (arith, x))

      module _ {d : DayPlan} (h : DayOf p r (Ok d)) {r' : Reading} (e' : r' ≡ reading_of b) where
        after_held : compare_refusal a b ≡ first_refusal (faults b ++ held_faults q)
        after_held = after_first ∙ planned_none p h.found.can (faults b ++ held_faults q)

        pub compare_second : (r'.number ≡ 0 → ⊥) → record { number = r'.number; line = r'.line; order = order_number No } ≡ compared_of a b
        compare_second n =
            refused (record { number = r'.number; line = r'.line }) (after_held ∙ refused_before (bytes_read b e') n (held_faults q)) n

        module _ (z' : r'.number ≡ 0) where
          after_second : compare_refusal a b ≡ first_refusal (held_faults q ++ [])
          after_second = after_held ∙ accepted_before (bytes_read b e') z' (held_faults q) ∙ sym (nothing_more (held_faults q))

          pub compare_second_held : {d' : HeldDay} → DayOf q r' (Err d') → record { number = no_placing; line = 0; order = order_number No } ≡ compared_of a b
          compare_second_held h' =
              refused (record { number = no_placing; line = 0 }) (after_second ∙ held_first q h'.found.cannot []) (λ x. omega (arith, x))

          pub compare_days : {d' : DayPlan} → DayOf q r' (Ok d') → {n : ℕ} → n ≡ order_number (order_of_plans (plan_for p) (plan_for q)) → record { number = 0; line = 0; order = n } ≡ compared_of a b
          unfolding compared_of order_of first_refusal
          compare_days h' {n} s = rw (after_second ∙ planned_none q h'.found.can []) (λ i. record { number = 0; line = 0; order = s i })
