-- `cuts::cutting::cut_volume` meets its contract. Assumes nothing.
use mathlib.Core.Path.{refl}
use Rattle.cuts.specs.Cuts.{cut_volume}
use Rattle.cuts.proofs.cutting.cut_volume.Goals as goal

pub returns : goal.returns
unfolding cut_volume
returns c = refl
