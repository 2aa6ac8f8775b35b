-- `densities::add_density` meets its contract: after t slots those of the window before slot t have so many parts more.
-- Assumes nothing.
use Rattle.placing.specs.WindowSteps.{AddedTo}
use Rattle.densities.proofs.add_density.Given as goal

abbrev pub invariant-loop-t : goal.invariant-loop-t
invariant-loop-t l = AddedTo l.parts l.release l.deadline l.t l.initial.sums l.sums
