-- `line::fields::add_digits` meets its contract. The digits that are left go on from the value so far, which has room
-- for them. Assumes nothing.
use Rattle.std.proofs.Common.{◌≡◌, ◌+◌, ◌-◌, ◌*◌, ◌^◌, ◌≤◌, length, drop}
use Rattle.line.specs.Layout.{width}
use Rattle.line.specs.Field.{digits}
use Rattle.line.proofs.fields.add_digits.Given as goal

abbrev pub invariant-loop-b : goal.invariant-loop-b
invariant-loop-b l = ((l.value + 1) * 10 ^ (length l.others - l.b-index) ≤ 10 ^ width) × (digits l.before l.others ≡ digits l.value (drop l.b-index l.others))
