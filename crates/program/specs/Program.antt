-- What the programs write: document 01, 'Sheets held' and 'The listing', and requests 105 and 107. Definitions only.
-- Assumes nothing.
use Rattle.std.specs.Prelude.{Bool, false, ◌&&◌, cond, List, ℕ, eqb, length}
use Rattle.checks.specs.declared.Refusal.{Refusal}
use Rattle.checks.specs.Refusals.{bad_form}
use Rattle.checks.specs.Sheet.{sheet_of, write_sheet}
use Rattle.common.specs.Buffers.{padded}
use Rattle.plan_lines.specs.Sizes.{plan_bytes, causes_bytes}
use Rattle.plan_lines.specs.Text.{refusal_text}
use Rattle.planning.specs.Problem.{alone, listing_of}
use Rattle.planning.specs.Planning.{plan_refusal, writes}
use Rattle.cause_lines.specs.Entries.{causes_text, is_cut}
use Rattle.causes.specs.CauseCalls.{endings_of}
use Rattle.program.specs.declared.Output.{Output}
use Rattle.practice.specs.Practice.{faulty_seed, seed_in, practice_sheet, practice_bytes}
use Rattle.program.specs.declared.Explanation.{Explanation}

-- The planner ----------------------------------------------------------------

-- the planner's whole output for its input: for 0 and 12 the listing; for every other number `HELD`, byte 10 and one
-- line of four fields, the refusal's number, the sheet line it names, 0, 0
unfoldable pub output : List ℕ → List ℕ
output b =
    let r : Refusal = plan_refusal b false in
    cond (writes r.number) (listing_of (alone (sheet_of b))) (refusal_text r.number r.line)

-- the output and its length; the bytes past it are 0
unfoldable pub output_of : List ℕ → Output plan_bytes
output_of b = record { bytes = padded plan_bytes (output b); length = length (output b) }

-- Why ------------------------------------------------------------------------

-- the whole output of `why`: the causes' listing where the input is planned, and otherwise what the planner writes
unfoldable pub explanation : List ℕ → List ℕ
explanation b = cond (eqb (plan_refusal b false).number 0) (causes_text (endings_of (alone (sheet_of b)))) (output b)

-- the listing was cut
unfoldable pub explanation_cut : List ℕ → Bool
explanation_cut b = eqb (plan_refusal b false).number 0 && is_cut (endings_of (alone (sheet_of b)))

unfoldable pub explanation_of : List ℕ → Explanation
explanation_of b = record { bytes = padded causes_bytes (explanation b); length = length (explanation b); cut = explanation_cut b }

-- Practice sheets ------------------------------------------------------------

-- the whole output: the sheet of the seed, and for any other input number 2, line 1, as the planner writes it
unfoldable pub seed_output : List ℕ → List ℕ
seed_output b = cond (faulty_seed b) (refusal_text bad_form 1) (write_sheet (practice_sheet (seed_in b)))

unfoldable pub made_sheet_of : List ℕ → Output practice_bytes
made_sheet_of b = record { bytes = padded practice_bytes (seed_output b); length = length (seed_output b) }
