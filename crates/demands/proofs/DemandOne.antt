-- What specs/DemandOne.antt states holds. Assumes nothing.
use Rattle.std.specs.Prelude.{refl, false, ◌||◌, [], ◌++◌, suc, ◌*◌, ltb, eqb, length}
use Rattle.std.proofs.Common.{sym, ap, ◌∙◌, arith}
use Rattle.line.specs.Layout.{line_bytes, fields}
use Rattle.checks.specs.Refusals.{short_buffer}
use Rattle.checks.specs.Sheet.{sheet_of, sheet_from}
use Rattle.checks.specs.Checks.{fault, value_faults, faults}
use Rattle.sheet.specs.Calls.{refused, write_refusal, written_of, write_refusal_for}
use Rattle.practice.specs.Practice.{practice_sheet, practice_refusal}
use Rattle.checks.specs.FaultLaws.{numbered_value_faults}
use Rattle.sheet.proofs.OwnCheckLaws.{bytes_checked}
use Rattle.checks.specs.SheetLaws.{length_write_sheet}
use Rattle.lookup.proofs.FindSteps.{nowhere_empty}
use Rattle.lookup.proofs.Theorems.{find_refused, find_none}
use Rattle.questions.specs.Calls.{marks_refusal, sheet_shortfall, shortfall_for, shortfall_of, bounds_fault, bounds_refusal, sheet_feasible, bounds_for, bounds_of}
use Rattle.marks.specs.Marks.{marks_fault}
use Rattle.planning.specs.Problem.{alone}
use Rattle.planning.specs.Planning.{held_faults, plan_refusal, short_plan, short_placing, listed_answer, unlisted_answer}
use Rattle.planning.proofs.AloneLaws.{held_alone}
use Rattle.comparison.specs.Comparison.{compare_refusal, compared_of}
use Rattle.causes.specs.CauseCalls.{short_causes, causes_answer}
use Rattle.halls.specs.Halls.{halls_faults, halls_answer}
use Rattle.program.specs.Theorems.{program_front}
use Rattle.program.specs.Theorems as Program
use Rattle.records.specs.Records.{record_sheet, record_faults}
use Rattle.demands.specs.Answers.{why_text}
use Rattle.demands.proofs.AnswerLaws.{alone_is, first_of, numbered_one, numbered_compared, first_alone, buffer_alone, placing_alone, both_alone, first_asked, zero_unless, no_unless, shortfall_is, yes_for, sheet_buffer, room_sheet, write_room, read_first, read_nothing, records_checked, program_text_lem}
use Rattle.demands.proofs.ComparisonLaws.{no_order}
use Rattle.demands.proofs.CausesLaws.{causes_listed, causes_buffer, causes_room, why_front, why_causes, why_refused}
use Rattle.demands.proofs.PracticeLaws.{practice_taken, practice_refused}
use Rattle.demands.proofs.SharesLaws.{cut_is, first_share, not_held, no_share, share_buffers, share_whole, share_held}
use Rattle.demands.proofs.HallsLaws.{first_halls, halls_kept, halls_answered_lem, halls_earlier, halls_without, hall_alone, hall_is}
use Rattle.demands.specs.DemandOne.{DemandOne}

pub demand_one : DemandOne
unfolding halls_faults halls_answer plan_refusal listed_answer unlisted_answer causes_answer write_refusal write_refusal_for practice_refusal written_of shortfall_of marks_refusal bounds_of bounds_refusal shortfall_for bounds_for compared_of compare_refusal refused
demand_one =
    record {
      read = λ b. (
        read_first b,
        λ n.
            let e = read_nothing b n in
            (ap (λ x. x.slots) e, ap (λ x. x.blowers) e, ap (λ x. x.wake) e, ap (λ x. x.rations) e, ap (λ x. x.numbers) e),
      );
      write = λ slots blowers wake n numbers out.
          let s = sheet_from slots blowers wake numbers in
          let agrees = eqb (fields * n) (length numbers) in
          let own = value_faults s n agrees in
          let h = numbered_value_faults s n agrees in (
            first_of (own ++ fault short_buffer 0 (ltb (length out) (line_bytes * suc n))) (numbered_one own h short_buffer (ltb (length out) (line_bytes * suc n)) (omega arith)),
            sheet_buffer (write_refusal s n numbers (length out)) s out (room_sheet slots blowers wake n numbers (length out)),
          );
      practice = λ seed out.
          let s = practice_sheet seed in
          let need = line_bytes * suc (length s.jobs) in (
            first_of (fault short_buffer 0 (ltb (length out) need)) (numbered_one [] (λ _. refl) short_buffer (ltb (length out) need) (omega arith)),
            sheet_buffer (practice_refusal seed (length out)) s out (λ e. omega (arith, write_room [] (λ _. refl) (length out) need e, length_write_sheet s)),
          );
      find = λ b tank. (find_refused b tank, find_none b tank);
      place = λ b tank. (λ h. sym (nowhere_empty b tank (find_refused b tank h)), λ h. sym (nowhere_empty b tank (find_none b tank h)));
      shortfall = λ b marks. (
        first_asked (bytes_checked b) (marks_fault (sheet_of b).slots marks),
        zero_unless _ (sheet_shortfall (sheet_of b) marks),
        shortfall_is (sheet_of b) marks _,
      );
      bounds = λ b lows highs. (
        first_asked (bytes_checked b) (bounds_fault (sheet_of b).slots lows highs),
        no_unless _ (sheet_feasible (sheet_of b) lows highs),
        yes_for (bytes_checked b) lows highs,
      );
      plan = λ b listing. (first_alone (bytes_checked b) (short_plan listing), buffer_alone (bytes_checked b) listing);
      plan_placing = λ b placing. (first_alone (bytes_checked b) (short_placing placing), refl, placing_alone (bytes_checked b) placing);
      plan_both = λ b listing placing.
          let w = both_alone (bytes_checked b) listing placing in
          (first_alone (bytes_checked b) (short_plan listing || short_placing placing), w.0, w.1);
      plan_number = λ b. (first_alone (bytes_checked b) false, refl);
      causes = λ b out. (
        first_alone (bytes_checked b) (short_causes out),
        causes_buffer (alone (sheet_of b)) _ out (causes_room (bytes_checked b) (alone (sheet_of b)) out),
      );
      compare = λ a b.
          let p = alone (sheet_of a) in
          let q = alone (sheet_of b) in
          (first_of (faults a ++ (held_faults p ++ (faults b ++ held_faults q))) (numbered_compared a b p q), no_order a b);
      write_rations = λ slots blowers wake rations out.
          let s = record_sheet slots blowers wake rations in
          let h = (records_checked s).numbered in
          let need = line_bytes * suc (length s.jobs) in (
            first_of (record_faults s ++ fault short_buffer 0 (ltb (length out) need)) (numbered_one (record_faults s) h short_buffer (ltb (length out) need) (omega arith)),
            sheet_buffer (write_refusal_for (record_faults s) s (length out)) s out (λ e. omega (arith, write_room (record_faults s) h (length out) need e, length_write_sheet s)),
          );
      shortfall_rations = λ slots blowers wake rations marks.
          let s = record_sheet slots blowers wake rations in
          (first_asked (records_checked s) (marks_fault s.slots marks), zero_unless _ (sheet_shortfall s marks), shortfall_is s marks _);
      bounds_rations = λ slots blowers wake rations lows highs.
          let s = record_sheet slots blowers wake rations in
          let c = records_checked s in
          (first_asked c (bounds_fault s.slots lows highs), no_unless _ (sheet_feasible s lows highs), yes_for c lows highs);
      plan_rations = λ slots blowers wake rations listing.
          let c = records_checked (record_sheet slots blowers wake rations) in
          (first_alone c (short_plan listing), buffer_alone c listing);
      plan_rations_both = λ slots blowers wake rations listing placing.
          let c = records_checked (record_sheet slots blowers wake rations) in
          let w = both_alone c listing placing in
          (first_alone c (short_plan listing || short_placing placing), w.0, w.1);
      program = λ b. (first_alone (bytes_checked b) false, rw (program_front b) (program_text_lem b));
      program_too_long = λ b l. program_front b ∙ Program.program_too_long b l;
      why = λ b. (
        λ z. let c = why_causes b z in causes_listed (alone (sheet_of b)) _ c.1 (why_text b) (why_front b ∙ c.0),
        λ n. let c = why_refused b n in (why_front b ∙ c.0 ∙ sym (program_front b), c.1),
      );
      practice_program = (practice_taken, practice_refused);
      alone_is = alone_is;
      held_is = held_alone;
      plan_halls = λ limit halls a b c d. (
        first_halls limit halls,
        halls_kept limit halls a b c d,
        halls_answered_lem limit halls a b c d,
      );
      plan_share = λ b listing placing.
          let w = share_buffers b listing placing in
          (first_share b listing placing, not_held b listing placing, no_share b listing placing, w.0, w.1);
      share_whole = share_whole;
      share_held = share_held;
      halls_earlier = halls_earlier;
      halls_without = halls_without;
      hall_alone = hall_alone;
      hall_is = hall_is;
      cut_is = cut_is;
    }
