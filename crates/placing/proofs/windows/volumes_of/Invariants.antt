-- `placing::windows::volumes_of` meets its contract: after j rations it has their volumes. Assumes nothing.
use Prim.Native.Nat.{◌≤◌}
use Rattle.checks.specs.Limits.{max_rations}
use Rattle.placing.specs.Rations.{volume_at}
use Rattle.common.specs.FillLaws.{FilledTo}
use Rattle.placing.proofs.windows.volumes_of.Given as goal

abbrev pub invariant-loop-j : goal.invariant-loop-j
invariant-loop-j l = (l.j ≤ l.n) × FilledTo max_rations (volume_at l.numbers) l.j l.volumes
