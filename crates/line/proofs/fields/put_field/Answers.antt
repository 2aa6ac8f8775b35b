-- `line::fields::put_field` meets its contract: the columns before the last two, then that of the tens, then the last
-- digit. Assumes nothing.
use Rattle.std.proofs.Common.{rules}
use Rattle.line.specs.FieldLaws.{length_write_field}
use Rattle.line.specs.PutLaws.{two_last, put_part}
use Rattle.line.proofs.fields.put_field.Goals as goal

pub returns : goal.returns
returns c = put_part c.args.at c.args.out.now _ _ (rw c.column_byte.ensures (two_last c.args.v _ _ c.put_leading.ensures (search rules))) (length_write_field c.args.v)
