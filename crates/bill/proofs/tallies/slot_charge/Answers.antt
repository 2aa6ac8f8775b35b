-- `bill::tallies::slot_charge` meets its contract. Assumes nothing.
use Rattle.std.proofs.Common.{arith}
use Rattle.bill.proofs.TallyLaws.{start_le}
use Rattle.bill.proofs.tallies.slot_charge.Goals as goal

pub overflow_mul-result : goal.overflow_mul-result
overflow_mul-result c = omega (arith, start_le _ _ _ c.requires.2 c.rate_of-rate.ensures)

pub overflow_add-result : goal.overflow_add-result
overflow_add-result c = omega (arith, start_le _ _ _ c.requires.2 c.rate_of-rate.ensures)
