-- What demand 2 asks of a comparison: words for the sheets that are planned, and for what is answered of two of them.
-- Definitions only. Assumes nothing.
use Rattle.std.specs.Prelude.{◌≡◌, List, [], ℕ}
use Rattle.checks.specs.Sheet.{sheet_of}
use Rattle.checks.specs.Checks.{faults}
use Rattle.plan_lines.specs.Lines.{Line}
use Rattle.plan_order.specs.declared.Order.{Order}
use Rattle.plan_order.specs.Order.{order_number}
use Rattle.planning.specs.Problem.{alone, listing_of}
use Rattle.planning.specs.Planning.{plan_refusal, short_plan, listed_answer, listing_after}
use Rattle.planning.specs.ReadListing.{written, lines_of}
use Rattle.comparison.specs.Comparison.{compared_of}
use Rattle.demands.specs.ByMethod.{HasPlacing}

-- the bytes of a well-formed sheet that has a sound placing
pub record PlannedSheet : Type 0 where
  pub bytes : List ℕ
  pub formed : faults bytes ≡ []
  pub has : HasPlacing (alone (sheet_of bytes))

-- the comparison of two of them gives this answer
abbrev pub Answered : Order → PlannedSheet → PlannedSheet → Type 0
Answered x a b = (compared_of a.bytes b.bytes).order ≡ order_number x

-- the lines that `plan` writes for a sheet's bytes into a plan buffer
abbrev pub lines_planned : (b listing : List ℕ) → List Line
lines_planned b listing =
    let r = plan_refusal b (short_plan listing) in
    let text = listing_of (alone (sheet_of b)) in
    lines_of (written (listed_answer r text) (listing_after r text listing))
