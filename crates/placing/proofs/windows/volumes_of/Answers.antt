-- `placing::windows::volumes_of` meets its contract: after j rations it has their volumes. Assumes nothing.
use Rattle.checks.specs.Limits.{max_rations}
use Rattle.placing.specs.Rations.{volume_at}
use Rattle.common.specs.FillLaws.{filled_begin}
use Rattle.placing.specs.WindowSteps.{volumes_end}
use native.Mathlib.Omega.{arith}
use Rattle.placing.proofs.windows.volumes_of.Goals as goal

pub loop-j-init : goal.loop-j-init
loop-j-init c = (omega arith, filled_begin max_rations (volume_at c.args.numbers.now))

pub returns : goal.returns
returns c = volumes_end _ _ _ c.requires _ (omega arith) _ c.loop-j.invariant.1
