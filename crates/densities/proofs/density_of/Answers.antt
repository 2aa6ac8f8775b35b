-- `densities::density_of` meets its contract. Assumes nothing.
use mathlib.Core.Path.{refl}
use Rattle.densities.specs.Densities.{density}
use Rattle.densities.proofs.density_of.Goals as goal

pub returns : goal.returns
unfolding density
returns c = refl
