-- `line::fields::add_digits` meets its contract. Assumes nothing.
use Rattle.std.proofs.Common.{rules, ◌^◌, ◌-◌, sym, ◌∙◌, arith, length, slice_index_or}
use Rattle.line.specs.Layout.{width}
use Rattle.line.specs.Field.{is_digit}
use Rattle.line.specs.FieldSteps.{digits_next, digits_other, digits_end, room_next, room_value}
use Rattle.line.proofs.fields.add_digits.Goals as goal

pub loop-b-init : goal.loop-b-init
loop-b-init c = search rules

pub returns-then-not-is_ascii_digit : goal.returns-then-not-is_ascii_digit
unfolding is_digit
returns-then-not-is_ascii_digit c =
    digits_other c.args.others.now c.loop-b.b-index (omega arith) c.loop-b.value (sym c.is_ascii_digit.ensures.value ∙ c.if-not-is_ascii_digit.true) ∙ sym c.loop-b.invariant.1

pub overflow_mul-value : goal.overflow_mul-value
overflow_mul-value c = omega (arith, room_value c.loop-b.value (length c.args.others.now - c.loop-b.b-index) (10 ^ width) c.loop-b.invariant.0)

pub overflow_add-value : goal.overflow_add-value
overflow_add-value c = omega (arith, room_value c.loop-b.value (length c.args.others.now - c.loop-b.b-index) (10 ^ width) c.loop-b.invariant.0)

pub loop-b-preserved : goal.loop-b-preserved
unfolding is_digit
loop-b-preserved c = (
  room_next c.loop-b.value (slice_index_or c.args.others.now c.loop-b.b-index 0 - 48) (length c.args.others.now) c.loop-b.b-index (10 ^ width) (search rules) (omega arith) c.loop-b.invariant.0,
  c.loop-b.invariant.1 ∙ digits_next c.args.others.now c.loop-b.b-index (omega arith) c.loop-b.value (sym c.is_ascii_digit.ensures.value ∙ c.if-not-is_ascii_digit.false),
)

pub returns : goal.returns
returns c = digits_end c.args.others.now c.loop-b.b-index c.loop-b.value (omega arith) ∙ sym c.loop-b.invariant.1
