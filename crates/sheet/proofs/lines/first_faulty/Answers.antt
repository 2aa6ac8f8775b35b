-- `sheet::lines::first_faulty` meets its contract. The first faulty line from a line on is the first of all, and a line is faulty where its fields from one on are. Assumes nothing.
use mathlib.Core.Path.{refl, sym, ap, ◌∙◌}
use Prim.Native.Nat.{◌+◌, ◌*◌, ◌-◌}
use Rattle.line.specs.Layout.{width, fields, line_bytes}
use Rattle.sheet.specs.Parts.{some_line}
use Rattle.sheet.proofs.LineSteps.{field_hit, field_miss, closing_hit, closing_miss, faulty_begin, first_begin, first_end, first_hit, first_miss, some_first}
use native.Mathlib.Omega.{arith}
use Rattle.sheet.proofs.lines.first_faulty.Goals as goal

pub lines-init : goal.lines-init
lines-init c = (omega arith, first_begin c.args.s.now c.args.lines)

pub loop-field-init : goal.loop-field-init
loop-field-init c = (omega arith, faulty_begin _)

pub loop-field-preserved : goal.loop-field-preserved
loop-field-preserved c = (
  omega arith,
  c.loop-field.invariant.1 ∙ field_miss c.args.s.now c.lines.line (omega arith) c.loop-field.field (line_bytes * c.lines.line + width * c.loop-field.field) (omega arith) refl (sym c.field_faulty.ensures ∙ c.if-field_faulty.false),
)

pub lines-preserved : goal.lines-preserved
lines-preserved c = (
  omega arith,
  c.lines.invariant.1 ∙ first_miss c.args.s.now c.lines.line c.args.lines (omega arith)
      (c.loop-field.invariant.1 ∙ closing_miss c.args.s.now c.lines.line (omega arith) c.loop-field.field (line_bytes * c.lines.line + width * fields) (omega arith) refl c.if-s-at-ne-NEWLINE.false),
)

pub returns-then-line-lines : goal.returns-then-line-lines
returns-then-line-lines c = ap some_line (first_end c.args.s.now c.lines.line c.args.lines c.if-line-lines.true ∙ sym c.lines.invariant.1)

pub returns-then-field_faulty : goal.returns-then-field_faulty
returns-then-field_faulty c = some_first c.lines.line _ (c.lines.invariant.1 ∙ sym (first_hit c.args.s.now c.lines.line c.args.lines (omega arith)
    (c.loop-field.invariant.1 ∙ field_hit c.args.s.now c.lines.line (omega arith) c.loop-field.field (line_bytes * c.lines.line + width * c.loop-field.field) (omega arith) refl (sym c.field_faulty.ensures ∙ c.if-field_faulty.true))))

pub returns-then-s-at-ne-NEWLINE : goal.returns-then-s-at-ne-NEWLINE
returns-then-s-at-ne-NEWLINE c = some_first c.lines.line _ (c.lines.invariant.1 ∙ sym (first_hit c.args.s.now c.lines.line c.args.lines (omega arith)
    (c.loop-field.invariant.1 ∙ closing_hit c.args.s.now c.lines.line (omega arith) c.loop-field.field (line_bytes * c.lines.line + width * fields) (omega arith) refl c.if-s-at-ne-NEWLINE.true)))
