-- `halls::calls::plan_halls` meets its contract. Assumes nothing.
use mathlib.Core.Path.{◌≡◌, sym, ap, ◌∙◌}
use Prim.Native.Nat.{ℕ}
use Rattle.checks.proofs.VerdictLaws.{err_verdict}
use Rattle.halls.specs.Halls.{Hall, Buffers, lent, four, halls_refusal, outcome_of}
use Rattle.halls.specs.Clauses.{refused_halls}
use Rattle.halls.proofs.HallLaws.{none_used_lem}
use Rattle.halls.proofs.CallLaws.{halls_in_range, checked_halls, checked_line, refused_outcome, refused_answer, after_hall, after_hall_if, buffers₁, buffers₂, buffers₃, buffers₄, planned_answer}
use native.Mathlib.Omega.{arith}
use Rattle.std.proofs.Common.{rules}
use Rattle.halls.proofs.calls.plan_halls.Goals as goal

pub returns-in-Err : goal.returns-in-Err
returns-in-Err c = let limit = c.args.limit in
    let halls = c.args.halls in
    let e = err_verdict _ _ (sym c.in-Err.is ∙ c.check_halls.ensures) in
    let h : Hall = lent c.args.sheet_1.now c.args.listing_1.now c.args.placing_1.now in
    let k : Hall = lent c.args.sheet_2.now c.args.listing_2.now c.args.placing_2.now in
    let m : Hall = lent c.args.sheet_3.now c.args.listing_3.now c.args.placing_3.now in
    let n : Hall = lent c.args.sheet_4.now c.args.listing_4.now c.args.placing_4.now in
    let refused : (halls_refusal limit halls).number ≡ 0 → ⊥ = λ z. e.1 (ap (λ r. r.number) e.0 ∙ z) in
    let left : (i : ℕ) → ◌≡◌ {A = Buffers} _ (outcome_of limit halls (four h k m n) i).buffers = λ i. ap (λ x. x.buffers) (sym (refused_outcome limit halls refused h k m n i)) in record {
      value = c.from.ensures ∙ ap refused_halls e.0 ∙ refused_answer limit halls refused h k m n;
      hall_1 = left 0;
      hall_2 = left 1;
      hall_3 = left 2;
      hall_4 = left 3;
    }

pub overflow_cast-most : goal.overflow_cast-most
overflow_cast-most c = omega (arith, (halls_in_range c.args.limit c.args.halls (checked_halls c.args.limit c.args.halls c.check_halls.ensures c.in_default.is)).1)

pub plan_hall-hall_1-requires : goal.plan_hall-hall_1-requires
plan_hall-hall_1-requires c = none_used_lem c.args.limit (halls_in_range c.args.limit c.args.halls (checked_halls c.args.limit c.args.halls c.check_halls.ensures c.in_default.is)).1

pub plan_hall_if-hall_2-requires : goal.plan_hall_if-hall_2-requires
plan_hall_if-hall_2-requires c = after_hall (none_used_lem c.args.limit (halls_in_range c.args.limit c.args.halls (checked_halls c.args.limit c.args.halls c.check_halls.ensures c.in_default.is)).1) c.plan_hall-hall_1.ensures

pub plan_hall_if-hall_3-requires : goal.plan_hall_if-hall_3-requires
plan_hall_if-hall_3-requires c = after_hall_if _ (after_hall (none_used_lem c.args.limit (halls_in_range c.args.limit c.args.halls (checked_halls c.args.limit c.args.halls c.check_halls.ensures c.in_default.is)).1) c.plan_hall-hall_1.ensures) c.plan_hall_if-hall_2.ensures

pub plan_hall_if-hall_4-requires : goal.plan_hall_if-hall_4-requires
plan_hall_if-hall_4-requires c = after_hall_if _ (after_hall_if _ (after_hall (none_used_lem c.args.limit (halls_in_range c.args.limit c.args.halls (checked_halls c.args.limit c.args.halls c.check_halls.ensures c.in_default.is)).1) c.plan_hall-hall_1.ensures) c.plan_hall_if-hall_2.ensures) c.plan_hall_if-hall_3.ensures

pub shape_of-listing_1 : goal.shape_of-listing_1
shape_of-listing_1 c = search (rules, c.plan_hall-hall_1.auto, c.plan_hall_if-hall_2.auto, c.plan_hall_if-hall_3.auto, c.plan_hall_if-hall_4.auto)

pub shape_of-placing_1 : goal.shape_of-placing_1
shape_of-placing_1 c = search (rules, c.plan_hall-hall_1.auto, c.plan_hall_if-hall_2.auto, c.plan_hall_if-hall_3.auto, c.plan_hall_if-hall_4.auto)

pub shape_of-listing_2 : goal.shape_of-listing_2
shape_of-listing_2 c = search (rules, c.plan_hall-hall_1.auto, c.plan_hall_if-hall_2.auto, c.plan_hall_if-hall_3.auto, c.plan_hall_if-hall_4.auto)

pub shape_of-placing_2 : goal.shape_of-placing_2
shape_of-placing_2 c = search (rules, c.plan_hall-hall_1.auto, c.plan_hall_if-hall_2.auto, c.plan_hall_if-hall_3.auto, c.plan_hall_if-hall_4.auto)

pub shape_of-listing_3 : goal.shape_of-listing_3
shape_of-listing_3 c = search (rules, c.plan_hall-hall_1.auto, c.plan_hall_if-hall_2.auto, c.plan_hall_if-hall_3.auto, c.plan_hall_if-hall_4.auto)

pub shape_of-placing_3 : goal.shape_of-placing_3
shape_of-placing_3 c = search (rules, c.plan_hall-hall_1.auto, c.plan_hall_if-hall_2.auto, c.plan_hall_if-hall_3.auto, c.plan_hall_if-hall_4.auto)

pub shape_of-listing_4 : goal.shape_of-listing_4
shape_of-listing_4 c = search (rules, c.plan_hall-hall_1.auto, c.plan_hall_if-hall_2.auto, c.plan_hall_if-hall_3.auto, c.plan_hall_if-hall_4.auto)

pub shape_of-placing_4 : goal.shape_of-placing_4
shape_of-placing_4 c = search (rules, c.plan_hall-hall_1.auto, c.plan_hall_if-hall_2.auto, c.plan_hall_if-hall_3.auto, c.plan_hall_if-hall_4.auto)

pub returns : goal.returns
returns c = let limit = c.args.limit in
    let halls = c.args.halls in
    let z = checked_halls c.args.limit c.args.halls c.check_halls.ensures c.in_default.is in
    let d₁ = c.plan_hall-hall_1.ensures in
    let d₂ = c.plan_hall_if-hall_2.ensures in
    let d₃ = c.plan_hall_if-hall_3.ensures in
    let d₄ = c.plan_hall_if-hall_4.ensures in record {
      value = (λ i. record { number = sym z i; line = checked_line limit halls z i; first = c.plan_hall-hall_1.result.planned; second = c.plan_hall_if-hall_2.result.planned; third = c.plan_hall_if-hall_3.result.planned; fourth = c.plan_hall_if-hall_4.result.planned }) ∙ planned_answer limit halls z d₁ d₂ d₃ d₄;
      hall_1 = buffers₁ limit halls z d₁ d₂ d₃ d₄;
      hall_2 = buffers₂ limit halls z d₁ d₂ d₃ d₄;
      hall_3 = buffers₃ limit halls z d₁ d₂ d₃ d₄;
      hall_4 = buffers₄ limit halls z d₁ d₂ d₃ d₄;
    }
