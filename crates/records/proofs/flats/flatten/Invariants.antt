-- After i rounds the flat numbers are those of the first i records.
use Rattle.std.proofs.Common.{◌≡◌}
use Rattle.records.specs.Flat.{taken_to}
use Rattle.records.proofs.flats.flatten.Given as goal

abbrev pub invariant-loop-i : goal.invariant-loop-i
invariant-loop-i l = l.flat ≡ taken_to l.i l.rations
