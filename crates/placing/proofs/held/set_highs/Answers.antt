-- `placing::held::set_highs` meets its contract. Assumes nothing.
use Rattle.placing.specs.HeldSteps.{highs_filled}
use Rattle.placing.proofs.held.set_highs.Goals as goal

pub returns : goal.returns
returns c = highs_filled c.args.slots c.args.blowers c.requires.0 c.requires.1 (c.fill.ensures.after (λ y e. e))
