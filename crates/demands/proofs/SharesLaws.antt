-- Why the call that plans the greatest share gives what the demands ask, from the theorems of `cuts` and `shares` and
-- the laws of one problem. Assumes nothing.
use Rattle.std.specs.Prelude.{◌≡◌, Bool, ◌||◌, List, [], ℕ, ◌≤◌, ◌<◌, length, get_or, take}
use Rattle.std.proofs.Math.Path.{refl, sym, ap, ap₂, subst}
use Rattle.std.proofs.Common.{◌∙◌, arith}
use Rattle.std.proofs.Math.Bool.{true, false, cond}
use Rattle.std.proofs.Math.Dec.{eqb}
use borrow.Author.Tests.{eq-eqb, ne_eqb}
use Rattle.common.specs.Tests.{or_false}
use Rattle.checks.specs.declared.Refusal.{Refusal}
use Rattle.checks.specs.Refusals.{short_buffer, no_placing}
use Rattle.checks.specs.Sheet.{Sheet, sheet_of}
use Rattle.checks.specs.Checks.{first_refusal, faults}
use Rattle.checks.specs.CallChecks.{buffer_checks}
use Rattle.checks.specs.RangeLaws.{ValuesInRange}
use Rattle.sheet.proofs.OwnCheckLaws.{bytes_checked}
use Rattle.schedules.specs.DemandLaws.{no_job}
use Rattle.cuts.specs.Cuts.{max_share, cut_job, cut_sheet, greatest_share}
use Rattle.cuts.proofs.Theorems.{rounded_down, rations_cut, share_most, share_least}
use Rattle.plan_lines.specs.Sizes.{plan_bytes, placing_words}
use Rattle.planning.specs.Problem.{Problem, alone, ProblemInRange, can_be_planned, feedings_of, listing_of, words_for}
use Rattle.planning.specs.Planning.{plan_checks, plan_refusal, short_plan, short_placing, writes, listed_answer, listing_after, placing_after}
use Rattle.planning.specs.ReadListing.{lines_of}
use Rattle.planning.proofs.CallAnswers.{passed_planned, passed_held, room_plan, room_placing, neither}
use Rattle.planning.proofs.WrittenLaws.{number_planned, listing_written, placing_written, writes_planned}
use Rattle.shares.specs.declared.SharePlanned.{SharePlanned}
use Rattle.shares.specs.Shares.{share_problem, share_refusal, share_answer}
use Rattle.shares.specs.Theorems.{share_in_range, share_planned, smaller_planned, greater_not, whole_share, whole_problem, held_share, refusal_as_planned, never_held}
use Rattle.demands.specs.Answers.{FirstOf, NotZero, PlanBuffer, PlacingBuffer}
use Rattle.demands.specs.Outcome.{Outcome, placing_in, SamePlacing}
use Rattle.demands.specs.ByMethod.{ChosenByMethod, ByMethod}
use Rattle.demands.specs.Shares.{CutIs, problem_at, written_share, IsGreatestShare}
use Rattle.demands.proofs.AnswerLaws.{first_of, numbered_one, both_planned}
use Rattle.demands.proofs.OutcomeLaws.{outcome_planned, placing_listed, marked_feedings}
use Rattle.demands.proofs.ByMethodLaws.{feedings_chosen, by_method}

pub cut_is : (share : ℕ) (s : Sheet) → CutIs share s
unfolding cut_sheet cut_job
cut_is share s =
    let c = rations_cut share s in
    record {
      slots = refl;
      blowers = refl;
      wake = refl;
      rations = c.0;
      each = λ i l.
          let e = c.1 i no_job l in
          let floor = rounded_down share (get_or s.jobs i no_job).volume in
          record {
            tank = ap (λ j. j.tank) e;
            release = ap (λ j. j.release) e;
            deadline = ap (λ j. j.deadline) e;
            at_most = omega (arith, ap (λ j. j.volume) e, floor.0);
            rounded_down = omega (arith, ap (λ j. j.volume) e, floor.1);
          };
    }

-- a buffer of one problem is that of another, where the two are one on number 0 and 12 is not given
other_plan : {p q : Problem} {number size : ℕ} {old new : List ℕ} → (number ≡ 0 → q ≡ p) → ¬ (number ≡ no_placing)
    → PlanBuffer p number size old new → PlanBuffer q number size old new
other_plan {p} {q} {number} {size} {old} {new} same no_held w =
    record {
      refused = w.refused;
      planned = λ z. (subst (λ x. PlanBuffer x number size old new) (sym (same z)) w).planned z;
      held = λ h. absurd (no_held h);
    }

other_placing : {p q : Problem} {number : ℕ} {old new : List ℕ} → (number ≡ 0 → q ≡ p) → ¬ (number ≡ no_placing)
    → PlacingBuffer p number old new → PlacingBuffer q number old new
other_placing {p} {q} {number} {old} {new} same no_held w =
    record {
      refused = w.refused;
      planned = λ z. (subst (λ x. PlacingBuffer x number old new) (sym (same z)) w).planned z;
      held = λ h. absurd (no_held h);
      as_grid = λ z. (subst (λ x. PlacingBuffer x number old new) (sym (same z)) w).as_grid z;
      held_as_grid = λ h. absurd (no_held h);
    }

-- The answer, whatever is lent -----------------------------------------------------------

module _ (b listing placing : List ℕ) where
  abbrev short : Bool
  short = short_plan listing || short_placing placing

  abbrev s : Sheet
  s = sheet_of b

  abbrev p : Problem
  p = share_problem (sheet_of b)

  abbrev r : Refusal
  r = share_refusal b (short_plan listing || short_placing placing)

  abbrev a : SharePlanned
  a = share_answer (share_refusal b (short_plan listing || short_placing placing)) (sheet_of b)

  pub first_share : FirstOf (buffer_checks (faults b) short) a.number a.line
  unfolding share_answer share_refusal
  first_share = first_of (buffer_checks (faults b) short) (numbered_one (faults b) (bytes_checked b).numbered short_buffer short (omega arith))

  pub not_held : ¬ (a.number ≡ no_placing)
  unfolding share_answer
  not_held = never_held b short

  pub no_share : NotZero a.number → a.share ≡ 0
  unfolding share_answer
  no_share n = rw (ne_eqb r.number 0 n)

  -- the problem of the share answered is that of the greatest
  problem_is : a.number ≡ 0 → problem_at b a ≡ p
  unfolding share_answer share_problem
  problem_is z = rw (eq-eqb r.number 0 z)

  length_is : a.length ≡ (listed_answer r (listing_of p)).length
  unfolding share_answer listed_answer writes
  length_is = ap (λ t. cond t (length (listing_of p)) 0) (same (eqb r.number 0) refl)
    where
      same : (t : Bool) → eqb r.number 0 ≡ t → t ≡ (t || eqb r.number no_placing)
      same true e = refl
      same false e = sym (ne_eqb r.number no_placing (never_held b short))

  in_range : ValuesInRange 0 s (length s.jobs) true → ProblemInRange p
  unfolding share_problem
  in_range = share_in_range (greatest_share s) (share_most s) s

  pub share_buffers : PlanBuffer (problem_at b a) a.number a.length listing (listing_after r (listing_of p) listing)
      × PlacingBuffer (problem_at b a) a.number placing (placing_after r (words_for p) placing)
  unfolding share_answer
  share_buffers =
      let w = subst (λ x. PlanBuffer p x.number (listed_answer x (listing_of p)).length listing (listing_after x (listing_of p) listing)
      × PlacingBuffer p x.number placing (placing_after x (words_for p) placing)) (sym (refusal_as_planned b short))
      (both_planned (bytes_checked b) p in_range listing placing) in (
        other_plan problem_is not_held
            (subst (λ size. PlanBuffer p r.number size listing (listing_after r (listing_of p) listing)) (sym length_is) w.0),
        other_placing problem_is not_held w.1,
      )

  -- a sheet that `plan_both` plans has share 100, and the same answer and buffers; its plan buffer is that of `plan`
  pub share_whole : let q = alone s in let x = plan_refusal b short in x.number ≡ 0 → let y = listed_answer x (listing_of q) in
      (a ≡ record { number = y.number; line = y.line; length = y.length; share = max_share })
      × (listing_after r (listing_of p) listing ≡ listing_after x (listing_of q) listing)
      × (placing_after r (words_for p) placing ≡ placing_after x (words_for q) placing)
      × (listing_after r (listing_of p) listing ≡ listing_after (plan_refusal b (short_plan listing)) (listing_of q) listing)
  unfolding plan_refusal share_answer listed_answer
  share_whole z = (
    rw (same_refusal, same_problem, whole_share s can, eq-eqb (plan_refusal b short).number 0 z, writes_planned (plan_refusal b short).number z),
    rw (same_refusal, same_problem),
    rw (same_refusal, same_problem),
    ap₂ (λ f q. listing_after f (listing_of q) listing) (same_refusal ∙ ap (plan_refusal b) same_short) same_problem,
  )
    where
      passed : (faults b ≡ []) × (short ≡ false) × (can_be_planned (alone s) ≡ true)
      passed = passed_planned (faults b) (bytes_checked b).numbered short (can_be_planned (alone s)) z

      can : can_be_planned (alone s) ≡ true
      can = passed.2

      same_short : short ≡ short_plan listing
      same_short = passed.1 ∙ sym (or_false (short_plan listing) (short_placing placing) passed.1).0

      same_problem : p ≡ alone s
      same_problem = whole_problem s can

      same_refusal : r ≡ plan_refusal b short
      same_refusal = refusal_as_planned b short ∙ ap (λ x. first_refusal (plan_checks (faults b) short x)) same_problem

  -- one that it holds has a smaller share
  pub share_held : (plan_refusal b short).number ≡ no_placing → a.share < max_share
  unfolding plan_refusal share_answer
  share_held e = go (eqb r.number 0)
    where
      smaller : greatest_share s < max_share
      smaller = held_share s (passed_held (faults b) (bytes_checked b).of_sheet short (can_be_planned (alone s)) e).2

      go : (t : Bool) → cond t (greatest_share s) 0 < max_share
      go true = smaller
      go false = omega arith

  -- with buffers that are long enough
  module _ (formed : faults b ≡ []) (l : plan_bytes ≤ length listing) (k : placing_words ≤ length placing) where
    enough : short ≡ false
    enough = neither (short_plan listing) (short_placing placing) (room_plan listing l) (room_placing placing k)

    g : ProblemInRange p
    g = in_range ((bytes_checked b).values formed)

    can : can_be_planned p ≡ true
    can = share_planned s

    number_zero : r.number ≡ 0
    number_zero = ap (λ x. x.number) (refusal_as_planned b short) ∙ number_planned p formed short enough can

    same : problem_at b a ≡ p
    unfolding share_answer
    same = problem_is number_zero

    text_is : written_share a (listing_after r (listing_of p) listing) ≡ listing_of p
    text_is =
        ap (λ n. take n (listing_after r (listing_of p) listing)) length_is
        ∙ listing_written r (listing_of p) listing (writes_planned r.number number_zero)

    marked : placing_in p.sheet (placing_after r (words_for p) placing) ≡ feedings_of p
    marked = marked_feedings p g can _ placing (placing_written r (words_for p) placing (writes_planned r.number number_zero))

    pub share_by_method : (a.number ≡ 0) × ByMethod (problem_at b a) (lines_of (written_share a (listing_after r (listing_of p) listing)))
        × ChosenByMethod (problem_at b a) (placing_in (problem_at b a).sheet (placing_after r (words_for p) placing))
    unfolding share_answer
    share_by_method = (
      number_zero,
      subst (λ q. ByMethod q (lines_of (written_share a (listing_after r (listing_of p) listing)))) (sym same) (by_method p g can _ text_is),
      subst (λ q. ChosenByMethod q (placing_in q.sheet (placing_after r (words_for p) placing))) (sym same) (feedings_chosen p g can _ marked),
    )

    pub share_outcome : Outcome (problem_at b a) a.number (written_share a (listing_after r (listing_of p) listing))
        × SamePlacing (problem_at b a).sheet (written_share a (listing_after r (listing_of p) listing)) (placing_after r (words_for p) placing)
    unfolding share_answer
    share_outcome =
        let text = written_share a (listing_after r (listing_of p) listing) in (
          subst (λ q. Outcome q r.number text) (sym same) (outcome_planned p g can text text_is r.number number_zero),
          subst (λ q. SamePlacing q.sheet text (placing_after r (words_for p) placing)) (sym same) (marked ∙ sym (placing_listed p g can text text_is)),
        )

    share_is : a.share ≡ greatest_share s
    unfolding share_answer
    share_is = rw (eq-eqb r.number 0 number_zero)

    pub share_greatest : IsGreatestShare s a.share
    share_greatest =
        record {
          least = omega (arith, share_is, share_least s ((bytes_checked b).values formed));
          most = omega (arith, share_is, share_most s);
          smaller = λ n l. smaller_planned s n (omega (arith, share_is));
          greater = λ n l k. greater_not s n (omega (arith, share_is)) k;
        }
