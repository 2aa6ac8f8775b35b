-- `endings::settling::list_stretches` meets its contract. Assumes nothing.
use Rattle.endings.specs.ListingSteps.{BlowersLoop}
use Rattle.endings.proofs.settling.list_stretches.Given as goal

abbrev pub invariant-loop-k : goal.invariant-loop-k
invariant-loop-k l = BlowersLoop l.slots l.blowers l.k l.so_far l.initial.words l.initial.out l.words l.out
