-- `hall_uses::add_used` meets its contract. Assumes nothing.
use Prim.Native.Nat.{◌+◌}
use lib.ListN.{get_or}
use Rattle.checks.specs.Limits.{max_slots}
use Rattle.common.specs.FillLaws.{filled_begin}
use Rattle.hall_uses.specs.UseLaws.{sums_end}
use native.Mathlib.Omega.{arith}
use Rattle.hall_uses.proofs.add_used.Goals as goal

pub loop-t-init : goal.loop-t-init
loop-t-init c = (omega arith, filled_begin max_slots (λ k. get_or c.args.used.now k 0 + get_or c.args.counts.now k 0))

pub returns : goal.returns
returns c = sums_end c.args.used.now c.args.counts.now c.requires.used_long c.requires.counts_long c.loop-t.t (omega arith) _ c.loop-t.invariant.1
