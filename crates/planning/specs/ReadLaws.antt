-- The lines of a written listing are read back, where each number has at most as many digits as a field has columns.
-- Assumes nothing.
use Rattle.std.specs.Prelude.{◌^◌, ◌<◌}
use mathlib.Core.List.{List, Memᴰ}
use Rattle.line.specs.Layout.{width}
use Rattle.plan_lines.specs.Lines.{Line}

-- a line whose numbers have at most as many digits as a field has columns
pub record FitsLine (l : Line) : Type 0 where
  pub a : l.a < 10 ^ width
  pub b : l.b < 10 ^ width
  pub c : l.c < 10 ^ width
  pub d : l.d < 10 ^ width

abbrev pub FitLines : List Line → Type 0
FitLines ls = (l : Line) → Memᴰ l ls → FitsLine l
