-- `line::fields::column_byte` meets its contract. Assumes nothing.
use Rattle.line.specs.PutLaws.{column_blank, column_digit}
use Rattle.line.proofs.fields.column_byte.Goals as goal

pub returns-then-rest-eq0 : goal.returns-then-rest-eq0
returns-then-rest-eq0 c = column_blank _ c.if-rest-eq0.true

pub returns-else-rest-eq0 : goal.returns-else-rest-eq0
returns-else-rest-eq0 c = column_digit _ c.if-rest-eq0.false
