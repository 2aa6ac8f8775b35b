-- `stretches::settle::settle_blower` meets its contract. What is left to settle after a slot is what was left before it. Assumes nothing.
use mathlib.Core.Path.{◌∙◌}
use Rattle.stretches.proofs.SettlingLaws.{left_next, left_end, passing_slot}
use native.Mathlib.Omega.{arith}
use Rattle.stretches.proofs.settle.settle_blower.Goals as goal

pub step-is_busy-requires : goal.step-is_busy-requires
step-is_busy-requires c = (passing_slot c.loop-t.invariant.2 (omega arith) c.loop-t.invariant.3, c.loop-t.invariant.1)

pub loop-t-preserved : goal.loop-t-preserved
loop-t-preserved c = (omega arith, c.loop-t.invariant.1, c.loop-t.invariant.2, λ ds b u. left_next (omega arith) (c.loop-t.invariant.3 ds b u) c.step-is_busy.ensures, λ u l. c.step-is_busy.ensures.others u (λ e. omega (arith, e)) ∙ c.loop-t.invariant.4 u l)

pub returns : goal.returns
returns c = record { settled = λ ds b u. left_end (omega arith) (c.loop-t.invariant.3 ds b u); past = c.loop-t.invariant.4 }
