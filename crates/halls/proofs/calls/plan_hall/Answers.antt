-- `halls::calls::plan_hall` meets its contract. Assumes nothing.
use Rattle.sheet.proofs.OwnCheckLaws.{bytes_read}
use Rattle.halls.specs.Halls.{lent}
use Rattle.halls.proofs.HallLaws.{can_add}
use Rattle.halls.proofs.CallLaws.{highs_of_read, busy_is, hall_done}
use Rattle.halls.proofs.calls.plan_hall.Goals as goal

pub plan_under-day-requires : goal.plan_under-day-requires
plan_under-day-requires c = let h = bytes_read c.args.b.now c.read_sheet-sheet.ensures in λ z. record { high = _; are = highs_of_read c.args.limit c.args.used.now c.args.b.now _ h c.highs_left-highs.ensures z }

pub add_used-requires : goal.add_used-requires
add_used-requires c = let h = bytes_read c.args.b.now c.read_sheet-sheet.ensures in
    can_add c.args.limit c.args.used.now (lent c.args.b.now c.args.listing.now c.args.placing.now) c.requires (busy_is c.args.limit c.args.used.now c.args.b.now c.args.listing.now c.args.placing.now h (highs_of_read c.args.limit c.args.used.now c.args.b.now _ h c.highs_left-highs.ensures) c.plan_under-day.ensures)

pub returns : goal.returns
returns c = let h = bytes_read c.args.b.now c.read_sheet-sheet.ensures in
    hall_done c.args.limit c.args.used.now c.args.b.now c.args.listing.now c.args.placing.now h (highs_of_read c.args.limit c.args.used.now c.args.b.now _ h c.highs_left-highs.ensures) c.plan_under-day.ensures c.add_used.ensures
