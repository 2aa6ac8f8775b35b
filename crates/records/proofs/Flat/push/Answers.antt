-- `records::Flat::push` meets its contract. Assumes nothing.
use Rattle.std.proofs.Common.{rules}
use Rattle.records.specs.Flat.{added}
use Rattle.records.proofs.Flat.push.Goals as goal

pub returns : goal.returns
unfolding added
returns c = search rules
