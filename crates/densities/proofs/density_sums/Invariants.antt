-- `densities::density_sums` meets its contract: after j rations the sums are theirs. Assumes nothing.
use Prim.Native.Nat.{◌≤◌}
use Rattle.densities.specs.Densities.{DensitySums}
use Rattle.densities.proofs.density_sums.Given as goal

abbrev pub invariant-loop-j : goal.invariant-loop-j
invariant-loop-j l = (l.j ≤ l.n) × DensitySums l.j l.numbers l.sums
