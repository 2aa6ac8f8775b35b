-- `endings::days::list_day` meets its contract. Assumes nothing.
use Rattle.std.proofs.Common.{ap, length}
use Rattle.placing.specs.WordLaws.{windows_of_day, volumes_of_day}
use Rattle.endings.specs.DayCauseLaws.{day_begin, can_list, day_listed, day_held}
use Rattle.endings.proofs.days.list_day.Goals as goal

pub begin-requires : goal.begin-requires
begin-requires c = let r = c.requires.0 in
    day_begin c.args.blowers r c.set_highs.ensures (windows_of_day r c.mark_windows.ensures) (volumes_of_day r c.volumes_of-volumes.ensures)
    (ap (λ w. length w.spare) c.new-words.ensures)

pub list_stretches-listed-requires : goal.list_stretches-listed-requires
list_stretches-listed-requires c = let r = c.requires.0 in
    can_list c.args.blowers r c.set_highs.ensures (windows_of_day r c.mark_windows.ensures) (volumes_of_day r c.volumes_of-volumes.ensures)
    c.begin.ensures c.if-begin.true c.requires.1

pub returns-then-begin : goal.returns-then-begin
returns-then-begin c = let r = c.requires.0 in
    day_listed c.args.blowers r c.set_highs.ensures (windows_of_day r c.mark_windows.ensures) (volumes_of_day r c.volumes_of-volumes.ensures)
    c.begin.ensures c.if-begin.true c.list_stretches-listed.ensures

pub returns : goal.returns
returns c = let r = c.requires.0 in
    day_held c.args.blowers r c.set_highs.ensures (windows_of_day r c.mark_windows.ensures) (volumes_of_day r c.volumes_of-volumes.ensures)
    c.begin.ensures c.if-begin.false
