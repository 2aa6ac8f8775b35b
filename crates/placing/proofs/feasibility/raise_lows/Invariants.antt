-- `placing::feasibility::raise_lows` meets its contract. The words hold a sound placing under the lows passed. Assumes nothing.
use Rattle.placing.specs.FeasibilitySteps.{RaisedTo}
use Rattle.placing.proofs.feasibility.raise_lows.Given as goal

abbrev pub invariant-loop-t : goal.invariant-loop-t
invariant-loop-t l = RaisedTo l.slots l.low l.t l.initial.words l.words
