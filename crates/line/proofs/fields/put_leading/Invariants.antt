-- `line::fields::put_leading` meets its contract: the columns from i on are written, and those before it are to show
-- what is left. Assumes nothing.
use Rattle.std.proofs.Common.{◌≡◌, ◌-◌, ◌++◌, drop}
use Rattle.line.specs.Layout.{width}
use Rattle.line.specs.Field.{leading}
use Rattle.line.proofs.fields.put_leading.Given as goal

abbrev pub invariant-loop-i : goal.invariant-loop-i
invariant-loop-i l = leading (width - 2) l.rest ≡ leading l.i l.left ++ drop l.i l.columns
