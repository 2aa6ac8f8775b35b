-- `sheet::reader::ration_numbers` meets its contract. The lines passed have their numbers in their places, and zeros follow. Assumes nothing.
use mathlib.Core.Path.{◌≡◌}
use Prim.Native.Nat.{◌*◌}
use Rattle.common.specs.Buffers.{padded}
use Rattle.line.specs.Layout.{fields}
use Rattle.checks.specs.Limits.{max_rations}
use Rattle.checks.specs.Sheet.{job_at, numbers_to}
use Rattle.sheet.proofs.reader.ration_numbers.Given as goal

abbrev pub invariant-loop-i : goal.invariant-loop-i
invariant-loop-i l = l.numbers ≡ padded (fields * max_rations) (numbers_to (job_at l.b) l.i)
