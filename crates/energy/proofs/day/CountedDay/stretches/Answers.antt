-- `energy::day::CountedDay::stretches` meets its contract. Assumes nothing.
use Rattle.energy.specs.StretchLaws.{left_begin}
use Rattle.energy.proofs.day.CountedDay.stretches.Goals as goal

pub returns : goal.returns
returns c = left_begin _ _ _
