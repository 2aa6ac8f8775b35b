-- `densities::greatest_density` meets its contract. Assumes nothing.
use Rattle.densities.proofs.DensityLaws.{greatest_is}
use Rattle.densities.proofs.greatest_density.Goals as goal

pub returns : goal.returns
returns c = greatest_is c.requires c.density_sums.ensures c.greatest.ensures
