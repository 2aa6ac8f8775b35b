-- `sheet::writer::put_rations` meets its contract. The lines of the rations passed stand side by side after the head line. Assumes nothing.
use mathlib.Core.Path.{◌≡◌}
use lib.ListN.{length}
use Rattle.common.specs.Lists.{flat_map}
use Rattle.common.specs.Buffers.{put_at}
use Rattle.line.specs.Layout.{line_bytes}
use Rattle.checks.specs.Sheet.{write_job}
use Rattle.sheet.proofs.WriteSteps.{first_jobs}
use Rattle.sheet.proofs.writer.put_rations.Given as goal

abbrev pub invariant-loop-i : goal.invariant-loop-i
invariant-loop-i l = (length l.out ≡ length l.initial.out) × (l.out ≡ put_at line_bytes (flat_map write_job (first_jobs l.numbers l.i)) l.initial.out)
