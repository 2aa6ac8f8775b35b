-- `marks::is_faulty` meets its contract. Assumes nothing.
use mathlib.Core.Path.{ap}
use mathlib.Core.Bool.{not}
use borrow.Author.Tests.{eq-eqb, ne_eqb}
use Rattle.marks.specs.Marks.{marks_fault}
use Rattle.marks.proofs.is_faulty.Goals as goal

pub returns-then-marks-slots : goal.returns-then-marks-slots
unfolding marks_fault
returns-then-marks-slots c = simp (ne_eqb _ _ c.if-marks-slots.true)

pub returns-else-marks-slots : goal.returns-else-marks-slots
unfolding marks_fault
returns-else-marks-slots c = simp (eq-eqb _ _ c.if-marks-slots.false) (ap not c.are_marks.ensures)
