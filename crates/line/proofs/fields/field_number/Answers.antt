-- `line::fields::field_number` meets its contract. Assumes nothing.
use Rattle.std.proofs.Common.{rules}
use Rattle.line.specs.Field.{number_of}
use Rattle.line.proofs.fields.field_number.Goals as goal

pub returns : goal.returns
unfolding number_of
returns c = search rules
