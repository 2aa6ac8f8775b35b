-- `cause_lines::slot_lines::in_day` meets its contract. Assumes nothing.
use mathlib.Core.Path.{ap, ◌∙◌}
use Prim.Native.Nat.{◌%◌, ◌^◌}
use native.Mathlib.Omega.{arith}
use Rattle.common.specs.Bits.{one_shl}
use Rattle.cause_lines.specs.SlotLaws.{day_front}
use Rattle.cause_lines.proofs.slot_lines.in_day.Goals as goal

pub returns : goal.returns
returns c =
    day_front _ _ _ (omega (arith, c.saturating_sub-n.ensures))
    (ap (λ m. c.args.word % m) (one_shl _ c.if-n-ge64.false) ∙ ap (λ k. c.args.word % 2 ^ k) c.saturating_sub-n.ensures)
