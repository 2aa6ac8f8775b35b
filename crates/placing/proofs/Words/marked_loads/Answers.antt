-- `Words::marked_loads` meets its contract. Assumes nothing.
use Rattle.std.proofs.Common.{rules}
use Rattle.grid.specs.Grid.{load}
use Rattle.placing.specs.Represents.{marked_loads}
use Rattle.placing.proofs.Words.marked_loads.Goals as goal

pub returns : goal.returns
unfolding marked_loads
returns c = c.sum_marked.ensures (load c.args.self.now.fed) (λ t n l p. search rules)
