-- `hall_uses::hall_highs` meets its contract. Assumes nothing.
use Prim.Native.Nat.{◌-◌, min}
use lib.ListN.{get_or}
use Rattle.checks.specs.Limits.{max_slots}
use Rattle.common.specs.FillLaws.{filled_begin}
use Rattle.hall_uses.specs.UseLaws.{highs_end}
use native.Mathlib.Omega.{arith}
use Rattle.hall_uses.proofs.hall_highs.Goals as goal

pub loop-t-init : goal.loop-t-init
loop-t-init c = (omega arith, c.requires.0, filled_begin max_slots (λ k. min c.args.blowers (c.args.limit - get_or c.args.used.now k 0)))

pub returns : goal.returns
returns c = highs_end c.args.limit c.args.used.now c.args.slots c.args.blowers c.loop-t.t (omega arith) (omega arith) _ c.loop-t.invariant.2
