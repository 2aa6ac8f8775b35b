-- `Words::begin` meets its contract. Assumes nothing.
use Rattle.std.proofs.Common.{refl}
use Rattle.placing.specs.BeginLaws.{begun}
use Rattle.placing.proofs.Words.begin.Goals as goal

pub returns : goal.returns
returns c = record { begun = begun c.requires.start.highs c.place_first.ensures c.relieve-within.ensures c.widths.ensures; highs = refl }
