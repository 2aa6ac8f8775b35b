-- `loads::first::feed_pass` meets its contract. The loop keeps what `Passing` says of the slots passed. Assumes nothing.
use Rattle.loads.specs.FirstLaws.{Passing}
use Rattle.loads.proofs.first.feed_pass.Given as goal

abbrev pub invariant-loop-t : goal.invariant-loop-t
invariant-loop-t l = Passing l.j l.left l.n l.initial.fed l.initial.rest l.high l.fed l.rest l.t
