-- `sheet::lines::first_faulty` meets its contract. The first faulty line from a line on is the first of all, and a line is faulty where its fields from one on are. Assumes nothing.
use mathlib.Core.Path.{◌≡◌}
use Prim.Native.Nat.{◌*◌, ◌≤◌, ◌-◌}
use Rattle.line.specs.Layout.{fields, line_bytes}
use Rattle.line.specs.Line.{faulty_from, faulty_line}
use Rattle.checks.specs.Sheet.{line_at}
use Rattle.checks.specs.Checks.{first_faulty}
use Rattle.sheet.proofs.lines.first_faulty.Given as goal

abbrev pub invariant-loop-field : goal.invariant-loop-field
invariant-loop-field l = (l.at ≡ line_bytes * l.line) × (faulty_line (line_at l.s l.line) ≡ faulty_from (line_at l.s l.line) l.field (fields - l.field))

abbrev pub invariant-lines : goal.invariant-lines
invariant-lines l = (l.line ≤ l.lines) × (first_faulty l.s 0 l.lines ≡ first_faulty l.s l.line (l.lines - l.line))

abbrev pub decreases-lines : goal.decreases-lines
decreases-lines l = l.lines - l.line
