-- `cause_lines::slot_lines::slot_word` meets its contract. Assumes nothing.
use native.Mathlib.Omega.{arith}
use Rattle.common.specs.Bits.{bit_of_zero}
use Rattle.cause_lines.specs.SlotLaws.{slot_before, slot_after, slot_there}
use Rattle.cause_lines.proofs.slot_lines.slot_word.Goals as goal
use Rattle.cause_lines.proofs.slot_lines.slot_word.Goals.{else-from-slot-via-then-from-slot+else-slot-from-le64, else-from-slot-via-else-from-slot}

pub add_bit-requires : goal.add_bit-requires
add_bit-requires c = (omega arith, bit_of_zero _)

pub returns-then-slot-from-le64 : goal.returns-then-slot-from-le64
returns-then-slot-from-le64 c = slot_there _ _ c.if-from-slot.true c.add_bit.ensures

pub returns-else-from-slot : goal.returns-else-from-slot
returns-else-from-slot c =
    elim c.else-from-slot.branch [
      | else-from-slot-via-then-from-slot+else-slot-from-le64 w ↦ slot_after _ _ (omega (arith, w.if-slot-from-le64.false))
      | else-from-slot-via-else-from-slot w ↦ slot_before _ _ w.if-from-slot.false
    ]
