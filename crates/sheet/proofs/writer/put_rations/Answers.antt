-- `sheet::writer::put_rations` meets its contract. Assumes nothing.
use mathlib.Core.Path.{◌≡◌, refl, ap, ◌∙◌}
use Rattle.std.proofs.Common.{arith}
use Rattle.common.specs.Lists.{flat_map}
use Rattle.common.specs.Buffers.{put_at}
use Rattle.line.specs.Layout.{line_bytes}
use Rattle.checks.specs.Sheet.{write_job}
use Rattle.sheet.proofs.WriteSteps.{first_jobs, put_ration, put_rations_begin}
use Rattle.sheet.proofs.writer.put_rations.Goals as goal

pub loop-i-init : goal.loop-i-init
loop-i-init c = (refl, put_rations_begin c.args.numbers.now c.args.out.now)

pub loop-i-preserved : goal.loop-i-preserved
loop-i-preserved c = (
  c.put_line.auto.out ∙ c.loop-i.invariant.0,
  c.put_line.ensures ∙ put_ration c.args.numbers.now c.args.out.now c.loop-i.out c.loop-i.i (omega arith) (omega arith) c.loop-i.invariant.1,
)

pub returns : goal.returns
returns c = let e : c.loop-i.i ≡ c.args.n = omega arith in c.loop-i.invariant.1 ∙ ap (λ k. put_at line_bytes (flat_map write_job (first_jobs c.args.numbers.now k)) c.args.out.now) e
