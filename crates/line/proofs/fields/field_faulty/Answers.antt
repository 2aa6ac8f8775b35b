-- `line::fields::field_faulty` meets its contract. Assumes nothing.
use Rattle.std.proofs.Common.{rules}
use Rattle.line.specs.Field.{is_faulty}
use Rattle.line.proofs.fields.field_faulty.Goals as goal

pub returns : goal.returns
unfolding is_faulty
returns c = search rules
