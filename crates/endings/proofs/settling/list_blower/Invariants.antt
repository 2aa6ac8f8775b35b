-- `endings::settling::list_blower` meets its contract. Assumes nothing.
use Rattle.endings.specs.ListingSteps.{BlowerLoop}
use Rattle.endings.proofs.settling.list_blower.Given as goal

abbrev pub invariant-loop-t : goal.invariant-loop-t
invariant-loop-t l = BlowerLoop l.slots l.k l.t l.progress l.initial.progress.extent l.initial.words l.initial.out l.words l.out
