-- `stretches::planning::choose_day` meets its contract. Assumes nothing.
use Rattle.stretches.proofs.DayLaws.{can_choose, day_chosen}
use Rattle.stretches.proofs.planning.choose_day.Goals as goal

pub choose-requires : goal.choose-requires
choose-requires c = can_choose c.args.slots c.args.blowers c.settle.ensures c.requires

pub returns : goal.returns
returns c = day_chosen c.args.slots c.args.blowers c.settle.ensures c.requires c.choose.ensures.chose
