-- Whoever says `unfolding answers` has every definition of this layer and of the one below computed, and those by which a sheet's bytes are read: for
-- tables of days. Assumes nothing.
use Rattle.line.specs.Field.{is_digit, digits, zero_alone, decimal, parse, number_of, is_faulty}
use Rattle.checks.specs.Sheet.{line_count, line_at, job_at, sheet_of}
use Rattle.line.specs.Line.{field_at, value_at, faulty_from, faulty_line}
use Rattle.checks.specs.Checks as Checks
use Rattle.checks.specs.Checks.{first_refusal, length_faults, first_faulty, form_faults, head_faults, tank_fault, window_fault, volume_fault, meal_fault, job_faults, jobs_faults, value_faults, faults}
use Rattle.schedules.specs.Meanings.{meanings}
use Rattle.schedules.specs.Demands.{demand_of, demands_of, no_low, full_high}
use Rattle.questions.specs.Text.{text}
use Rattle.marks.specs.Marks.{is_mark, marked, marks_fault}
use Rattle.questions.specs.Calls.{marks_refusal, sheet_shortfall, shortfall_for, shortfall_of, bounds_fault, bounds_refusal, cut_highs, sheet_feasible, bounds_for, bounds_of}

-- bytes to a sheet's numbers, or the first refusal
unfoldable pub readings : Unit {0}
unfolding is_digit digits zero_alone decimal parse number_of is_faulty line_count line_at field_at value_at faulty_from faulty_line job_at sheet_of first_refusal Checks.outside length_faults first_faulty form_faults head_faults tank_fault window_fault volume_fault meal_fault job_faults jobs_faults value_faults faults
readings = tt

-- the calls, from text to answer
unfoldable pub answers : Unit {0}
unfolding readings meanings text demand_of demands_of no_low full_high is_mark marked marks_fault marks_refusal sheet_shortfall shortfall_for shortfall_of bounds_fault bounds_refusal cut_highs sheet_feasible bounds_for bounds_of
answers = tt
