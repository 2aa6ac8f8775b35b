-- `sheet::lines::put_numbers` meets its contract. Assumes nothing.
use mathlib.Core.Path.{◌∙◌}
use Prim.Native.Nat.{◌+◌, ◌*◌}
use Rattle.line.specs.Layout.{width, line_bytes}
use Rattle.sheet.proofs.LineSteps.{put_numbers_at, value_place}
use native.Mathlib.Omega.{arith}
use Rattle.sheet.proofs.lines.put_numbers.Goals as goal

pub returns : goal.returns
returns c = put_numbers_at c.args.s.now c.args.line c.args.at _ _ _ _ c.args.numbers.now (omega arith)
    (c.field_number-tank.ensures ∙ value_place c.args.s.now c.args.line (omega arith) 0 (line_bytes * c.args.line) (omega arith) (omega arith))
    (c.field_number-release.ensures ∙ value_place c.args.s.now c.args.line (omega arith) 1 (line_bytes * c.args.line + width) (omega arith) (omega arith))
    (c.field_number-deadline.ensures ∙ value_place c.args.s.now c.args.line (omega arith) 2 (line_bytes * c.args.line + width * 2) (omega arith) (omega arith))
    (c.field_number-volume.ensures ∙ value_place c.args.s.now c.args.line (omega arith) 3 (line_bytes * c.args.line + width * 3) (omega arith) (omega arith))
