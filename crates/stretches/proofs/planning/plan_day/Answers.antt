-- `stretches::planning::plan_day` meets its contract. Assumes nothing.
use Rattle.placing.specs.WordLaws.{windows_of_day, volumes_of_day}
use Rattle.stretches.proofs.DayLaws.{can_plan_day, day_planned}
use Rattle.stretches.proofs.planning.plan_day.Goals as goal

pub plan_words-requires : goal.plan_words-requires
plan_words-requires c = let p = c.requires in
    can_plan_day c.args.blowers p.0
    (windows_of_day p.0 c.mark_windows.ensures) (volumes_of_day p.0 c.volumes_of-volumes.ensures) p.1.are

pub returns : goal.returns
returns c = λ high h.
    let p = c.requires in
    day_planned c.args.blowers p.0
    (windows_of_day p.0 c.mark_windows.ensures) (volumes_of_day p.0 c.volumes_of-volumes.ensures) h _ c.plan_words.ensures
