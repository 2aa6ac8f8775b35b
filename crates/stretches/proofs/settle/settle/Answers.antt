-- `stretches::settle::settle` meets its contract. What is left to settle after a blower is what was left before it. Assumes nothing.
use mathlib.Core.Path.{◌∙◌}
use Rattle.stretches.proofs.SettlingLaws.{blowers_next, blowers_end, passing_day}
use native.Mathlib.Omega.{arith}
use Rattle.stretches.proofs.settle.settle.Goals as goal

pub settle_blower-requires : goal.settle_blower-requires
settle_blower-requires c = (passing_day c.loop-k.invariant.0 c.loop-k.invariant.1, c.loop-k-test.true)

pub loop-k-preserved : goal.loop-k-preserved
loop-k-preserved c = (c.loop-k.invariant.0, λ ds b u. blowers_next c.loop-k-test.true (c.loop-k.invariant.1 ds b u) c.settle_blower.ensures, λ u l. c.settle_blower.ensures.past u l ∙ c.loop-k.invariant.2 u l)

pub returns : goal.returns
returns c = record { settled = λ ds b u. blowers_end (omega (arith, c.loop-k-test.false)) (c.loop-k.invariant.1 ds b u); past = c.loop-k.invariant.2 }
