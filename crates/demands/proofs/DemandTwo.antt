-- What specs/DemandTwo.antt states holds. Assumes nothing.
use Rattle.std.specs.Prelude.{◌≡◌, refl, false, ◌||◌, List, [], ℕ, ◌≤◌, length}
use Rattle.std.proofs.Common.{sym, subst, ◌∙◌}
use Rattle.checks.specs.Sheet.{Sheet, sheet_of}
use Rattle.checks.specs.Checks.{faults}
use Rattle.sheet.specs.Calls.{reading_of}
use Rattle.plan_lines.specs.Sizes.{plan_bytes}
use Rattle.planning.specs.Problem.{alone, listing_of}
use Rattle.planning.specs.Planning.{plan_refusal, short_plan, short_placing, listed_answer, unlisted_answer, listing_after}
use Rattle.planning.specs.ReadListing.{written, lines_of}
use Rattle.planning.proofs.CallAnswers.{room_plan, room_placing, neither}
use Rattle.planning.proofs.ProblemLaws.{may_planned}
use Rattle.causes.specs.CauseCalls.{short_causes, causes_answer}
use Rattle.causes.specs.ReadCauses.{entries_in}
use Rattle.causes.specs.CauseAnswers.{room_causes}
use Rattle.halls.specs.Halls.{hall_problem, halls_answer}
use Rattle.program.specs.Theorems.{program_writes, program_front}
use Rattle.records.specs.Records.{record_sheet}
use Rattle.demands.specs.Answers.{program_text, why_text, ValuesRead}
use Rattle.demands.specs.ByMethod.{HasPlacing, ByMethod}
use Rattle.demands.specs.Causes.{CausesByMethod}
use Rattle.demands.proofs.AnswerLaws.{bytes_in_range, records_in_range, alone_is}
use Rattle.demands.proofs.ByMethodLaws.{number_is, listed_by_method, marked_by_method, as_worded, runs_worded_lem}
use Rattle.demands.proofs.ComparisonLaws.{comparison_number, comparison_listed, comparison_ordered, comparison_counts}
use Rattle.demands.proofs.CausesLaws.{by_method_causes, call_by_method, why_front, why_causes}
use Rattle.demands.proofs.PracticeLaws.{of_practice, practice_number, practice_written, practice_taken}
use Rattle.demands.proofs.HallsLaws.{halls_by_method, hall_is}
use Rattle.demands.proofs.SharesLaws.{cut_is, share_by_method}
use Rattle.demands.proofs.RoundTripLaws.{values_read, read_again, rations_read_again, values_again, rations_again}
use Rattle.demands.specs.DemandTwo.{DemandTwo}

-- what `plan` gives for bytes b with the values of t
abbrev PlanByMethod : (listing b : List ℕ) → Sheet → Type 0
PlanByMethod listing b t =
    let r = plan_refusal b (short_plan listing) in
    let text = listing_of (alone (sheet_of b)) in
    let a = listed_answer r text in
    (a.number ≡ 0) × ByMethod (alone t) (lines_of (written a (listing_after r text listing)))

plan_by_method : (b listing : List ℕ) → faults b ≡ [] → HasPlacing (alone (sheet_of b)) → plan_bytes ≤ length listing → PlanByMethod listing b (sheet_of b)
unfolding plan_refusal listed_answer
plan_by_method b listing formed has l =
    let g = bytes_in_range b formed in
    let e = room_plan listing l in
    (number_is formed _ g has (short_plan listing) e, listed_by_method formed _ g has (short_plan listing) e listing)

program_by_method : (b : List ℕ) → faults b ≡ [] → HasPlacing (alone (sheet_of b)) → ByMethod (alone (sheet_of b)) (lines_of (program_text b))
unfolding plan_refusal
program_by_method b formed has =
    subst (λ x. ByMethod (alone (sheet_of b)) (lines_of x)) (sym (program_front b ∙ program_writes b formed []))
    (listed_by_method formed _ (bytes_in_range b formed) has false refl [])

pub demand_two : DemandTwo
unfolding halls_answer hall_problem plan_refusal listed_answer unlisted_answer causes_answer
demand_two =
    record {
      plan = plan_by_method;
      plan_both = λ b listing placing formed has l k.
          let g = bytes_in_range b formed in
          let short = short_plan listing || short_placing placing in
          let e = neither (short_plan listing) (short_placing placing) (room_plan listing l) (room_placing placing k) in
          (number_is formed _ g has short e, listed_by_method formed _ g has short e listing, marked_by_method formed _ g has short e placing);
      plan_placing = λ b placing formed has k.
          let g = bytes_in_range b formed in
          let e = room_placing placing k in
          (number_is formed _ g has (short_placing placing) e, marked_by_method formed _ g has (short_placing placing) e placing);
      plan_number = λ b formed has. number_is formed _ (bytes_in_range b formed) has false refl;
      compare = λ a b. (comparison_number a b, comparison_listed a b);
      compare_order = comparison_ordered;
      compare_counts = comparison_counts;
      causes = λ b out formed has l.
          let g = bytes_in_range b formed in
          let e = room_causes out l in
          let z = number_is formed _ g has (short_causes out) e in
          (z, call_by_method formed _ g refl (short_causes out) e z out);
      plan_halls = λ limit halls a b c d z i l formed has m k. halls_by_method limit halls a b c d z i l formed m k has;
      hall_is = hall_is;
      plan_share = share_by_method;
      cut_is = cut_is;
      plan_rations = λ slots blowers wake rations listing formed has l.
          let g = records_in_range (record_sheet slots blowers wake rations) formed in
          let e = room_plan listing l in
          (number_is formed _ g has (short_plan listing) e, listed_by_method formed _ g has (short_plan listing) e listing);
      plan_rations_both = λ slots blowers wake rations listing placing formed has l k.
          let g = records_in_range (record_sheet slots blowers wake rations) formed in
          let short = short_plan listing || short_placing placing in
          let e = neither (short_plan listing) (short_placing placing) (room_plan listing l) (room_placing placing k) in
          (number_is formed _ g has short e, listed_by_method formed _ g has short e listing, marked_by_method formed _ g has short e placing);
      program = program_by_method;
      why = λ b formed has.
          let g = bytes_in_range b formed in
          let c = why_causes b (number_is formed _ g has false refl) in
          subst (λ x. CausesByMethod (alone (sheet_of b)) x (entries_in (why_text b))) (sym c.1)
          (by_method_causes _ g refl (may_planned _ g has.0 has.1) (why_text b) (why_front b ∙ c.0));
      practice_program = λ seed h.
          let e = practice_taken seed h in
          let read = of_practice seed (λ b t. (faults b ≡ []) × ValuesRead t (reading_of b)) (λ b f. (f, values_read b f)) e in
          (read.0, read.1, of_practice seed (λ b t. HasPlacing (alone t) → ByMethod (alone t) (lines_of (program_text b))) program_by_method e);
      alone_is = alone_is;
      worded = λ s. (as_worded s, runs_worded_lem s);
      read_write = read_again;
      write_read = values_again;
      read_write_rations = rations_read_again;
      write_rations_read = rations_again;
      practice = λ seed out l.
          let read = of_practice seed (λ b t. (faults b ≡ []) × ValuesRead t (reading_of b)) (λ b f. (f, values_read b f)) (practice_written seed out l) in
          (practice_number seed out l, read.0, read.1);
      practice_plan = λ seed out listing l has k.
          of_practice seed (λ b t. HasPlacing (alone t) → PlanByMethod listing b t) (λ b f has. plan_by_method b listing f has k) (practice_written seed out l) has;
    }
