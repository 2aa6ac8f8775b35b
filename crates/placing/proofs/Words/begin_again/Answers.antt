-- `Words::begin_again` meets its contract. Assumes nothing.
use Rattle.std.proofs.Common.{refl}
use Rattle.loads.specs.FirstLaws.{can_place_again}
use Rattle.placing.specs.BeginLaws.{begun_again}
use Rattle.placing.proofs.Words.begin_again.Goals as goal

pub place_again-requires : goal.place_again-requires
place_again-requires c = let p = c.requires in can_place_again p.holds p.start

pub returns : goal.returns
returns c = record { begun = begun_again c.requires.start.highs c.place_again.ensures c.relieve.ensures; highs = refl; spares = refl }
