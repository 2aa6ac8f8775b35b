-- `line::fields::whole_number` meets its contract: the first byte says what the number is. Assumes nothing.
use Rattle.std.proofs.Common.{rules, ◌∙◌, arith}
use Rattle.line.specs.FieldSteps.{decimal_zero, decimal_digit, decimal_below, decimal_above, room_first}
use Rattle.line.proofs.fields.whole_number.Goals as goal

pub returns-in-48 : goal.returns-in-48
returns-in-48 c = search (rules, decimal_zero c.args.first c.args.others.now c.in-48.is)

pub add_digits-requires : goal.add_digits-requires
add_digits-requires c = room_first _ _ (omega arith) c.requires

pub returns-in-49-to-57 : goal.returns-in-49-to-57
returns-in-49-to-57 c = c.add_digits.ensures ∙ decimal_digit c.args.first c.args.others.now (omega arith) (omega arith)

pub returns-in_default : goal.returns-in_default
returns-in_default c = decimal_below c.args.first c.args.others.now (omega arith)

pub returns-in_default-2 : goal.returns-in_default-2
returns-in_default-2 c = decimal_above c.args.first c.args.others.now (omega arith)
