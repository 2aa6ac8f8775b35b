-- `Words::marked_highs` meets its contract. Assumes nothing.
use Rattle.std.proofs.Common.{rules}
use Rattle.grid.specs.Grid.{at}
use Rattle.placing.specs.Represents.{marked_highs}
use Rattle.placing.proofs.Words.marked_highs.Goals as goal

pub returns : goal.returns
unfolding marked_highs
returns c = c.sum_marked.ensures (at c.args.self.now.high) (λ t n l p. search rules)
