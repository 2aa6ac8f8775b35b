-- `practice::rations::ration_numbers` meets its contract. Assumes nothing.
use Rattle.practice.proofs.PracticeLaws.{Drawing}
use Rattle.practice.proofs.rations.ration_numbers.Given as goal

abbrev pub invariant-loop-i : goal.invariant-loop-i
invariant-loop-i l = Drawing l.seed l.n l.numbers l.s l.i
