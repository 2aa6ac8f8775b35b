-- `loads::relief::widths` meets its contract. Assumes nothing.
use Rattle.loads.specs.ExchangeLaws.{Widening}
use Rattle.loads.proofs.relief.widths.Given as goal

abbrev pub invariant-loop-t : goal.invariant-loop-t
invariant-loop-t l = Widening l.fed l.rest l.spare l.t
