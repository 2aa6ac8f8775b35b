-- How the answer of the call and its lent buffers follow from what was planned hall by hall. Assumes nothing.
use Rattle.std.specs.Prelude.{◌≡◌, Bool, true, false, Result, Ok, Err, IfOk, leb, take, drop}
use Rattle.std.proofs.Math.Path.{refl, sym, ap}
use Rattle.std.proofs.Common.{◌∙◌, subst, arith, eq-eqb, ne_eqb}
use Rattle.std.proofs.Math.Bool.{cond}
use mathlib.Core.List.{List, [], ◌∷◌, ◌++◌, map}
use Prim.Native.Nat.{ℕ, zero, suc, ◌+◌, ◌≤◌}
use Rattle.std.proofs.Math.ListN.{get_or}
use Rattle.common.specs.Lists.{zip_with}
use Rattle.common.specs.Buffers.{padded}
use Rattle.checks.specs.Limits.{max_slots}
use Rattle.checks.specs.Refusals.{bad_halls}
use Rattle.checks.specs.Sheet.{Sheet, sheet_of}
use Rattle.checks.specs.Checks.{fault, first_refusal, outside, faults}
use Rattle.checks.specs.FaultLaws.{false_fault, append_nil_parts, Numbered, numbered_append, numbered_fault}
use Rattle.checks.specs.RangeLaws.{in_range_outside}
use Rattle.checks.specs.Verdicts.{verdict}
use Rattle.checks.proofs.VerdictLaws.{ok_verdict}
use Rattle.checks.specs.declared.Refusal.{Refusal}
use Rattle.sheet.specs.declared.Reading.{Reading}
use Rattle.sheet.specs.declared.feed_sheet.FeedSheet.{FeedSheet}
use Rattle.sheet.specs.Calls.{refused}
use Rattle.sheet.specs.FeedSheets.{as_reading}
use Rattle.sheet.specs.OwnChecks.{ReadFrom}
use Rattle.sheet.proofs.FeedSheetLaws.{err_numbered}
use Rattle.placing.specs.ReadLaws.{sheet_read_lem}
use Rattle.stretches.specs.Days.{HighsOf}
use Rattle.planning.specs.declared.Planned.{Planned}
use Rattle.planning.specs.declared.PlannedDay.{PlannedDay}
use Rattle.planning.specs.Clauses.{ReadUnder, UnderAt}
use Rattle.hall_uses.specs.Uses.{hall_high}
use Rattle.hall_uses.specs.UseLaws.{length_hall_high, hall_high_below}
use Rattle.halls.specs.declared.HallPlanned.{HallPlanned}
use Rattle.halls.specs.Halls.{Hall, lent, no_hall, four, max_limit, max_halls, hall_problem, short_hall, hall_refusal, used_by, used_after, hall_outcome, none_used, halls_in_order, halls_faults, halls_refusal, nothing, not_planned, outcomes, outcome_of, halls_answer}
use Rattle.halls.specs.Clauses.{Used, left, HallDone, outcome_if, used_if, HallDoneIf}
use Rattle.halls.proofs.HallLaws.{used_next}

-- One hall -----------------------------------------------------------------------------

-- the bytes that `hall_highs` gives are the hall's highs
pub highs_of_hall : (limit : ℕ) (used b : List ℕ) {r : Reading} → ReadFrom (faults b) (sheet_of b) r → {H : List ℕ}
    → H ≡ padded max_slots (hall_high limit used r.slots r.blowers)
    → r.number ≡ 0 → HighsOf r.slots r.blowers (let s = sheet_of b in hall_high limit used s.slots s.blowers) H
highs_of_hall limit used b {r} h {H} e z =
    let a = sheet_read_lem h z in
    let s : Sheet = sheet_of b in
    record {
      each = length_hall_high limit used s.slots s.blowers ∙ sym a.slots;
      below = λ t l. omega (arith, hall_high_below limit used s.slots s.blowers t (omega (arith, a.slots)), a.blowers);
      bytes = e ∙ (λ i. padded max_slots (hall_high limit used (a.slots i) (a.blowers i)));
    }

-- so are those that `highs_left` gives, where the sheet was not refused
pub highs_of_read : (limit : ℕ) (used b : List ℕ) (x : Result FeedSheet Refusal) → ReadFrom (faults b) (sheet_of b) (as_reading x) → {H : List ℕ}
    → IfOk x (λ f. H ≡ padded max_slots (hall_high limit used f.slots f.blowers))
    → (as_reading x).number ≡ 0
    → HighsOf (as_reading x).slots (as_reading x).blowers (let s = sheet_of b in hall_high limit used s.slots s.blowers) H
unfolding refused
highs_of_read limit used b (Ok f) h e z = highs_of_hall limit used b h e z
highs_of_read limit used b (Err r) h e z = absurd (err_numbered r h z)

-- what planning under them gives is what the definitions say of the hall
module _ (limit : ℕ) (used b listing placing : List ℕ) {r : Reading} (h : ReadFrom (faults b) (sheet_of b) r) {H listing' placing' : List ℕ}
    (highs : r.number ≡ 0 → HighsOf r.slots r.blowers (let s = sheet_of b in hall_high limit used s.slots s.blowers) H) {x : PlannedDay}
    (p : ReadUnder r H listing listing' placing placing' x) where
  abbrev hall : Hall
  hall = lent b listing placing

  under : UnderAt (hall_refusal limit used hall) (hall_problem limit used hall) listing listing' placing placing' x
  unfolding hall_refusal hall_problem short_hall
  under = let s = sheet_of b in p (faults b) s h (hall_high limit used s.slots s.blowers) highs

  pub busy_is : x.counts ≡ used_by limit used hall
  unfolding used_by
  busy_is = under.busy

  pub hall_done : {u : List ℕ} → u ≡ zip_with ◌+◌ used x.counts → HallDone limit used hall (record { planned = x.planned; used = u }) listing' placing'
  unfolding hall_outcome used_after
  hall_done e =
      record {
        outcome = λ i.
            record { answer = under.listed.0 i; buffers = record { listing = under.listed.1 i; placing = under.placed i } };
        uses = e ∙ ap (zip_with ◌+◌ used) busy_is;
      }

-- A hall that is there, and one that is not ----------------------------------------------

module _ {there : Bool} {limit : ℕ} {used : List ℕ} {h : Hall} where
  pub done_there : there ≡ true → {r : HallPlanned} {listing placing : List ℕ} → HallDone limit used h r listing placing
      → HallDoneIf there limit used h r listing placing
  unfolding outcome_if used_if
  done_there e d = record { outcome = rw e d.outcome; uses = rw e d.uses }

  pub done_none : there ≡ false → {x : Planned} → x ≡ nothing
      → HallDoneIf there limit used h (record { planned = x; used = used }) h.buffers.listing h.buffers.placing
  unfolding outcome_if used_if
  done_none e f = record { outcome = rw e (λ i. record { answer = f i; buffers = h.buffers }); uses = rw e refl }

-- what is used after a hall is within the limit
pub after_hall : {limit : ℕ} {used : List ℕ} {h : Hall} {r : HallPlanned} {listing placing : List ℕ} → Used limit used
    → HallDone limit used h r listing placing → Used limit r.used
after_hall {limit} {used} {h} u d = subst (Used limit) (sym d.uses) (used_next limit used h u)

pub after_hall_if : (there : Bool) {limit : ℕ} {used : List ℕ} {h : Hall} {r : HallPlanned} {listing placing : List ℕ} → Used limit used
    → HallDoneIf there limit used h r listing placing → Used limit r.used
unfolding used_if
after_hall_if there {limit} {used} {h} u d = subst (Used limit) (sym d.uses) (go there)
  where
    go : (t : Bool) → Used limit (cond t (used_after limit used h) used)
    go true = used_next limit used h u
    go false = u

-- 14 ---------------------------------------------------------------------------------------

pub numbered_halls : (limit halls : ℕ) → Numbered (halls_faults limit halls)
unfolding halls_faults
numbered_halls limit halls =
    numbered_append _ _ (numbered_fault bad_halls 0 (outside 1 max_limit limit) (omega arith)) (numbered_fault bad_halls 0 (outside 1 max_halls halls) (omega arith))

-- number 0 says that the limit and the number of halls are in range
pub halls_in_range : (limit halls : ℕ) → (halls_refusal limit halls).number ≡ 0 → (1 ≤ limit) × (limit ≤ max_limit) × (1 ≤ halls) × (halls ≤ max_halls)
unfolding halls_refusal halls_faults
halls_in_range limit halls z =
    let p = append_nil_parts (fault bad_halls 0 (outside 1 max_limit limit)) (fault bad_halls 0 (outside 1 max_halls halls)) (numbered_halls limit halls z) in
    let l = in_range_outside 1 max_limit limit (false_fault bad_halls 0 _ p.0) in
    let n = in_range_outside 1 max_halls halls (false_fault bad_halls 0 _ p.1) in
    (l.ge, l.le, n.ge, n.le)

-- what the code's check says of the limit and the halls
pub checked_halls : (limit halls : ℕ) {x : Result (Unit {0}) Refusal} → x ≡ verdict (halls_refusal limit halls) → x ≡ Ok tt → (halls_refusal limit halls).number ≡ 0
checked_halls limit halls e z = ok_verdict _ (sym z ∙ e)

-- a call that is not refused names no line
pub checked_line : (limit halls : ℕ) → (halls_refusal limit halls).number ≡ 0 → 0 ≡ (halls_refusal limit halls).line
unfolding halls_refusal halls_faults first_refusal
checked_line limit halls z = sym (ap (λ rs. (first_refusal rs).line) (numbered_halls limit halls z))

-- where it refuses, no hall is planned
module _ (limit halls : ℕ) (n : (halls_refusal limit halls).number ≡ 0 → ⊥) (a b c d : Hall) where
  refused_outcomes : outcomes limit halls (four a b c d) ≡ map not_planned (four a b c d)
  unfolding outcomes
  refused_outcomes = rw (ne_eqb (halls_refusal limit halls).number 0 n)

  pub refused_outcome : (i : ℕ) → outcome_of limit halls (four a b c d) i ≡ get_or (map not_planned (four a b c d)) i (not_planned no_hall)
  unfolding outcome_of
  refused_outcome i = ap (λ os. get_or os i (not_planned no_hall)) refused_outcomes

  pub refused_answer : record { number = (halls_refusal limit halls).number; line = (halls_refusal limit halls).line; first = nothing; second = nothing; third = nothing; fourth = nothing }
      ≡ halls_answer limit halls (four a b c d)
  unfolding halls_answer
  refused_answer = λ i.
      record {
        number = (halls_refusal limit halls).number;
        line = (halls_refusal limit halls).line;
        first = (sym (refused_outcome 0) i).answer;
        second = (sym (refused_outcome 1) i).answer;
        third = (sym (refused_outcome 2) i).answer;
        fourth = (sym (refused_outcome 3) i).answer;
      }

-- Four halls, one after another ---------------------------------------------------------------

module _ (limit : ℕ) (used : List ℕ) (a b c d : Hall) where
  abbrev used₁ : List ℕ
  used₁ = used_after limit used a

  abbrev used₂ : (halls : ℕ) → List ℕ
  used₂ halls = used_if (leb 2 halls) limit used₁ b

  abbrev used₃ : (halls : ℕ) → List ℕ
  used₃ halls = used_if (leb 3 halls) limit (used₂ halls) c

  -- the chain of the call is the list in order, where at least one hall is there
  chain : (halls : ℕ) → 1 ≤ halls → halls ≤ max_halls
      → halls_in_order limit used (take halls (four a b c d)) ++ map not_planned (drop halls (four a b c d))
      ≡ hall_outcome limit used a
      ∷ outcome_if (leb 2 halls) limit used₁ b
      ∷ outcome_if (leb 3 halls) limit (used₂ halls) c
      ∷ outcome_if (leb 4 halls) limit (used₃ halls) d ∷ []
  unfolding halls_in_order outcome_if used_if
  chain zero l m = absurd (omega arith)
  chain (suc zero) l m = refl
  chain (suc (suc zero)) l m = refl
  chain (suc (suc (suc zero))) l m = refl
  chain (suc (suc (suc (suc zero)))) l m = refl
  chain (suc (suc (suc (suc (suc n))))) l m = absurd (omega arith)

module _ (limit halls : ℕ) (z : (halls_refusal limit halls).number ≡ 0) {a b c d : Hall} {hall₁ hall₂ hall₃ hall₄ : HallPlanned}
    {listing₁ placing₁ listing₂ placing₂ listing₃ placing₃ listing₄ placing₄ : List ℕ}
    (done₁ : HallDone limit none_used a hall₁ listing₁ placing₁)
    (done₂ : HallDoneIf (leb 2 halls) limit hall₁.used b hall₂ listing₂ placing₂)
    (done₃ : HallDoneIf (leb 3 halls) limit hall₂.used c hall₃ listing₃ placing₃)
    (done₄ : HallDoneIf (leb 4 halls) limit hall₃.used d hall₄ listing₄ placing₄) where
  uses₁ : hall₁.used ≡ used₁ limit none_used a b c d
  uses₁ = done₁.uses

  uses₂ : hall₂.used ≡ used₂ limit none_used a b c d halls
  uses₂ = done₂.uses ∙ ap (λ u. used_if (leb 2 halls) limit u b) uses₁

  uses₃ : hall₃.used ≡ used₃ limit none_used a b c d halls
  uses₃ = done₃.uses ∙ ap (λ u. used_if (leb 3 halls) limit u c) uses₂

  done : outcomes limit halls (four a b c d)
      ≡ left hall₁ listing₁ placing₁ ∷ left hall₂ listing₂ placing₂ ∷ left hall₃ listing₃ placing₃ ∷ left hall₄ listing₄ placing₄ ∷ []
  unfolding outcomes
  done =
      ap (λ t. cond t (halls_in_order limit none_used (take halls (four a b c d)) ++ map not_planned (drop halls (four a b c d))) (map not_planned (four a b c d))) (eq-eqb (halls_refusal limit halls).number 0 z)
      ∙ chain limit none_used a b c d halls (halls_in_range limit halls z).2 (halls_in_range limit halls z).3
      ∙ (λ i.
      sym done₁.outcome i
      ∷ sym (done₂.outcome ∙ ap (λ u. outcome_if (leb 2 halls) limit u b) uses₁) i
      ∷ sym (done₃.outcome ∙ ap (λ u. outcome_if (leb 3 halls) limit u c) uses₂) i
      ∷ sym (done₄.outcome ∙ ap (λ u. outcome_if (leb 4 halls) limit u d) uses₃) i ∷ [])

  outcome_is : (i : ℕ) → get_or (left hall₁ listing₁ placing₁ ∷ left hall₂ listing₂ placing₂ ∷ left hall₃ listing₃ placing₃ ∷ left hall₄ listing₄ placing₄ ∷ []) i (not_planned no_hall)
      ≡ outcome_of limit halls (four a b c d) i
  unfolding outcome_of
  outcome_is i = ap (λ os. get_or os i (not_planned no_hall)) (sym done)

  pub buffers₁ : record { listing = listing₁; placing = placing₁ } ≡ (outcome_of limit halls (four a b c d) 0).buffers
  buffers₁ = ap (λ o. o.buffers) (outcome_is 0)

  pub buffers₂ : record { listing = listing₂; placing = placing₂ } ≡ (outcome_of limit halls (four a b c d) 1).buffers
  buffers₂ = ap (λ o. o.buffers) (outcome_is 1)

  pub buffers₃ : record { listing = listing₃; placing = placing₃ } ≡ (outcome_of limit halls (four a b c d) 2).buffers
  buffers₃ = ap (λ o. o.buffers) (outcome_is 2)

  pub buffers₄ : record { listing = listing₄; placing = placing₄ } ≡ (outcome_of limit halls (four a b c d) 3).buffers
  buffers₄ = ap (λ o. o.buffers) (outcome_is 3)

  pub planned_answer : record { number = (halls_refusal limit halls).number; line = (halls_refusal limit halls).line; first = hall₁.planned; second = hall₂.planned; third = hall₃.planned; fourth = hall₄.planned }
      ≡ halls_answer limit halls (four a b c d)
  unfolding halls_answer
  planned_answer = λ i.
      record {
        number = (halls_refusal limit halls).number;
        line = (halls_refusal limit halls).line;
        first = (outcome_is 0 i).answer;
        second = (outcome_is 1 i).answer;
        third = (outcome_is 2 i).answer;
        fourth = (outcome_is 3 i).answer;
      }
