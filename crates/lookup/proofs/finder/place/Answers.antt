-- `lookup::finder::place` meets its contract. Assumes nothing.
use Rattle.std.proofs.Common.{rules}
use Rattle.lookup.proofs.FindSteps.{placed}
use Rattle.lookup.proofs.finder.place.Goals as goal

pub returns-clause-b_value : goal.returns-clause-b_value
returns-clause-b_value c = (placed c.args.b.now c.args.tank c.unwrap_or_default.result (search rules)).1
