-- Whoever says `unfolding listings` has every definition computed that leads from a sheet's bytes to its listing and
-- back from a listing to its lines: for tables of days. Assumes nothing.
use Rattle.line.specs.Field.{leading, columns, write_field}
use Rattle.line.specs.Line.{write_line}
use Rattle.common.specs.Buffers.{over, padded}
use Rattle.questions.specs.Meanings.{answers}
use Rattle.method.specs.Method.{on_run, idle_for, busy_for, longest, idle_run, busy_run, settle, settle_all, loads}
use Rattle.method.specs.Feedings.{prefer, cells, with_counts, chosen}
use Rattle.method.specs.Intervals.{join, runs, intervals, size}
use Rattle.energy.specs.Energy.{at_end, state, listed, listed_for, on_in, on_slots, start_at, starts_from, starts_of, starts, on, energy}
use Rattle.bill.specs.Bill.{rates, hour_of, rate_of, on_rate, on_charge, start_charge, charge_from, blower_charge, charge, cents_of, amount_of}
use Rattle.plan_lines.specs.Lines.{stretch_line, blower_lines, stretch_lines, part_at, fed_in, feed_line, slot_lines, feed_lines, bill_line, plan_lines, members_from, member_lines, held_lines}
use Rattle.plan_lines.specs.Text.{write_lines, plan_text, held_text, refusal_text}
use Rattle.plan_lines.specs.PlacingForms.{binary, word_of, words_of}
use Rattle.planning.specs.Planning.{plan_refusal, short_plan, short_placing, writes, listed_answer, listing_after, placing_after, busy_after}
use Rattle.schedules.specs.Rest.{rest_demands, rest_high, together, no_feedings}
use Rattle.planning.specs.Problem.{left, room, can_be_planned, settled_counts, feedings_of, counts_of, shown_set, plan_with, listing_of, words_for}
use Rattle.planning.specs.ReadListing.{line_in, lines_in, lines_of, head_line, slot_set, stretch_part, feed_part, bill_on, of_meal, placing_on}
use Rattle.plan_order.specs.Order.{order_of_numbers, order_of_lists, tanks_in, order_of_plans}
use Rattle.comparison.specs.Comparison.{compare_refusal, order_of, compared_of}
use Rattle.schedules.specs.Causes.{excess_set, some_above, crossed, lowest, obstacle}
use Rattle.method.specs.Keeping.{stretches}
use Rattle.method.specs.Endings.{in_order, endings}
use Rattle.cause_lines.specs.Entries.{entry_lines, entry_text, entries_text, fitting, causes_text, is_cut}
use Rattle.causes.specs.CauseCalls.{endings_of}
use Rattle.checks.specs.Sheet.{write_job, write_sheet}
use Rattle.practice.specs.Practice.{next_seed, seed_after, draw, drawn_job, practice_job, practice_sheet, faulty_seed, seed_in}
use Rattle.hall_uses.specs.Uses.{hall_high}
use Rattle.halls.specs.Halls.{hall_problem, short_hall, hall_refusal, used_by, used_after, hall_outcome, halls_in_order, used_by_all, halls_faults, halls_refusal, outcomes, outcome_of, halls_answer}
use Rattle.cuts.specs.Cuts.{cut_volume, cut_job, cut_sheet, feasible_sheet, greatest_share}
use Rattle.shares.specs.Shares.{share_problem, share_refusal, share_answer}
use Rattle.program.specs.Program.{output, explanation, seed_output}
use Rattle.demands.specs.Halls.{busy_in}

-- the method, feedings, stretches, energy and the charge
unfoldable pub plans : Unit {0}
unfolding on_run idle_for busy_for longest idle_run busy_run settle settle_all loads prefer cells with_counts chosen join runs intervals size at_end state on_in on_slots start_at starts_from starts_of starts on energy rates hour_of rate_of on_rate on_charge start_charge charge_from blower_charge listed listed_for charge cents_of amount_of
plans = tt

-- from text to text, and back to lines
unfoldable pub listings : Unit {0}
unfolding answers plans leading columns write_field write_line padded stretch_line blower_lines stretch_lines part_at fed_in feed_line slot_lines feed_lines bill_line plan_lines members_from member_lines held_lines write_lines plan_text held_text refusal_text rest_demands rest_high together no_feedings left room can_be_planned settled_counts feedings_of counts_of plan_with shown_set listing_of plan_refusal writes output line_in lines_in lines_of head_line stretch_part feed_part bill_on
listings = tt

-- and to the placing's words
unfoldable pub placings : Unit {0}
unfolding listings binary word_of words_of words_for
placings = tt

-- from two sheets to the order of their plans
unfoldable pub comparisons : Unit {0}
unfolding listings order_of_numbers order_of_lists tanks_in order_of_plans compare_refusal order_of compared_of
comparisons = tt

-- and to the causes' listing
unfoldable pub causes : Unit {0}
unfolding listings excess_set some_above crossed lowest obstacle stretches in_order endings entry_lines entry_text entries_text fitting causes_text is_cut endings_of explanation
causes = tt

-- from a seed to its practice sheet
unfoldable pub practices : Unit {0}
unfolding listings next_seed seed_after draw drawn_job practice_job practice_sheet write_job write_sheet faulty_seed seed_in seed_output
practices = tt

-- from halls to their answers and plan buffers
unfoldable pub halls : Unit {0}
unfolding listings over short_plan short_placing listed_answer listing_after busy_after hall_high hall_problem short_hall hall_refusal used_by used_after hall_outcome halls_in_order used_by_all halls_faults halls_refusal outcomes outcome_of halls_answer slot_set of_meal placing_on busy_in
halls = tt

-- from a sheet to its greatest share and the plan of the cut sheet
unfoldable pub shares : Unit {0}
unfolding placings over short_plan short_placing listing_after placing_after cut_volume cut_job cut_sheet feasible_sheet greatest_share share_problem share_refusal share_answer
shares = tt
