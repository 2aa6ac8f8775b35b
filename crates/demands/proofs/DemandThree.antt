-- What specs/DemandThree.antt states holds. Assumes nothing.
use Rattle.std.specs.Prelude.{◌≡◌, refl, false, ◌||◌, List, [], ℕ, ◌≤◌, length}
use Rattle.std.proofs.Common.{sym, subst, ◌∙◌, arith}
use Rattle.checks.specs.Sheet.{Sheet, sheet_of}
use Rattle.checks.specs.Checks.{faults}
use Rattle.plan_lines.specs.Sizes.{plan_bytes}
use Rattle.planning.specs.Problem.{alone, MayPlace, listing_of}
use Rattle.planning.specs.Planning.{plan_refusal, short_plan, short_placing, listed_answer, unlisted_answer, listing_after}
use Rattle.planning.specs.ReadListing.{written, lines_of, stretch_part}
use Rattle.planning.proofs.CallAnswers.{room_plan, room_placing, neither}
use Rattle.causes.specs.CauseCalls.{short_causes, causes_answer}
use Rattle.causes.specs.ReadCauses.{entries_in}
use Rattle.causes.specs.CauseAnswers.{room_causes}
use Rattle.halls.specs.Halls.{hall_problem, halls_answer}
use Rattle.program.specs.Theorems.{program_writes, program_front}
use Rattle.records.specs.Records.{record_sheet}
use Rattle.demands.specs.Answers.{program_text, why_text}
use Rattle.demands.specs.Outcome.{Outcome}
use Rattle.demands.specs.Causes.{CausesShown}
use Rattle.demands.proofs.AnswerLaws.{bytes_in_range, records_in_range, alone_is}
use Rattle.demands.proofs.OutcomeLaws.{written_listing, outcome_of_lem, marks_of_lem, high_alone}
use Rattle.demands.proofs.PracticeLaws.{of_practice, practice_written, practice_taken}
use Rattle.demands.proofs.HallsLaws.{halls_outcome, hall_is, used_is, shown_past, within_limit}
use Rattle.demands.proofs.SharesLaws.{cut_is, share_outcome, share_greatest}
use Rattle.demands.proofs.ComparisonLaws.{comparison_held_iff}
use Rattle.demands.proofs.CausesLaws.{shown_causes, planned, call_shown, why_front, why_causes, why_refused}
use Rattle.demands.specs.DemandThree.{DemandThree}

-- what `plan` gives for bytes b with the values of t
abbrev PlanOutcome : (listing b : List ℕ) → Sheet → Type 0
PlanOutcome listing b t =
    let r = plan_refusal b (short_plan listing) in
    let text = listing_of (alone (sheet_of b)) in
    let a = listed_answer r text in
    Outcome (alone t) a.number (written a (listing_after r text listing))

plan_outcome : (b listing : List ℕ) → faults b ≡ [] → plan_bytes ≤ length listing → PlanOutcome listing b (sheet_of b)
unfolding plan_refusal listed_answer
plan_outcome b listing formed l =
    let g = bytes_in_range b formed in
    let e = room_plan listing l in
    outcome_of_lem formed _ g (short_plan listing) e _ (written_listing formed _ g (short_plan listing) e listing)

program_outcome : (b : List ℕ) → faults b ≡ [] → Outcome (alone (sheet_of b)) (plan_refusal b false).number (program_text b)
unfolding plan_refusal
program_outcome b formed =
    let g = bytes_in_range b formed in
    outcome_of_lem formed _ g false refl (program_text b) (program_front b ∙ program_writes b formed [] ∙ written_listing formed _ g false refl [])

pub demand_three : DemandThree
unfolding halls_answer hall_problem plan_refusal listed_answer unlisted_answer causes_answer
demand_three =
    record {
      plan = plan_outcome;
      plan_both = λ b listing placing formed l k.
          let g = bytes_in_range b formed in
          let short = short_plan listing || short_placing placing in
          let e = neither (short_plan listing) (short_placing placing) (room_plan listing l) (room_placing placing k) in
          let w = written_listing formed _ g short e listing in
          (outcome_of_lem formed _ g short e _ w, marks_of_lem formed _ g short e _ placing w);
      plan_placing = λ b placing formed k.
          let p = alone (sheet_of b) in
          let g = bytes_in_range b formed in
          let e = room_placing placing k in
          let o = outcome_of_lem formed p g (short_placing placing) e _ refl in (
            o.planned_or_held,
            λ n. subst (MayPlace p) (sym (marks_of_lem formed p g (short_placing placing) e _ placing refl n)) (o.plan n).sound,
            λ n listing l.
                marks_of_lem formed p g (short_placing placing) e _ placing (written_listing formed p g (short_plan listing) (room_plan listing l) listing) n,
          );
      plan_number = λ b formed. (outcome_of_lem formed _ (bytes_in_range b formed) false refl _ refl).planned_or_held;
      causes = λ b out formed l.
          let p = alone (sheet_of b) in
          let g = bytes_in_range b formed in
          let e = room_causes out l in (
            (outcome_of_lem formed p g (short_causes out) e _ refl).planned_or_held,
            λ z listing k. call_shown formed p g refl (short_causes out) e z out _ (written_listing formed p g (short_plan listing) (room_plan listing k) listing),
          );
      practice = λ seed out listing l k.
          of_practice seed (PlanOutcome listing) (λ b f. plan_outcome b listing f k) (practice_written seed out l);
      practice_program = λ seed h.
          of_practice seed (λ b t. Outcome (alone t) (plan_refusal b false).number (program_text b)) program_outcome (practice_taken seed h);
      compare = comparison_held_iff;
      plan_halls = halls_outcome;
      hall_is = hall_is;
      halls_used = λ limit halls a b c d z t k. (used_is limit halls a b c d z t k, shown_past limit halls a b c d z t, within_limit limit halls a b c d z t k);
      plan_share = λ b listing placing formed l k.
          let o = share_outcome b listing placing formed l k in
          (o.0, o.1, share_greatest b listing placing formed l k);
      cut_is = cut_is;
      plan_rations = λ slots blowers wake rations listing formed l.
          let g = records_in_range (record_sheet slots blowers wake rations) formed in
          let e = room_plan listing l in
          outcome_of_lem formed _ g (short_plan listing) e _ (written_listing formed _ g (short_plan listing) e listing);
      plan_rations_both = λ slots blowers wake rations listing placing formed l k.
          let g = records_in_range (record_sheet slots blowers wake rations) formed in
          let short = short_plan listing || short_placing placing in
          let e = neither (short_plan listing) (short_placing placing) (room_plan listing l) (room_placing placing k) in
          let w = written_listing formed _ g short e listing in
          (outcome_of_lem formed _ g short e _ w, marks_of_lem formed _ g short e _ placing w);
      program = program_outcome;
      why = λ b formed.
          let p = alone (sheet_of b) in
          let g = bytes_in_range b formed in
          let w = program_front b ∙ program_writes b formed [] ∙ written_listing formed _ g false refl [] in (
            λ z.
                let c = why_causes b z in
                subst (λ x. CausesShown p (stretch_part (lines_of (program_text b))) x (entries_in (why_text b))) (sym c.1)
                (shown_causes p g refl (planned formed p g refl false refl z) (program_text b) (why_text b) w (why_front b ∙ c.0)),
            λ n.
                let c = why_refused b (λ z. omega (arith, n, z)) in
                outcome_of_lem formed _ g false refl (why_text b) (why_front b ∙ c.0 ∙ sym (program_front b) ∙ w),
          );
      alone_is = alone_is;
      high_is = high_alone;
    }
