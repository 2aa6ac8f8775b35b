-- `placing::causes::with_mark` meets its contract. Assumes nothing.
use Rattle.placing.specs.CauseSteps.{no_bit}
use Rattle.placing.proofs.causes.with_mark.Goals as goal

pub add_bit-requires : goal.add_bit-requires
add_bit-requires c = (c.requires.0, no_bit _ _ c.requires.1)
