-- `loads::first::place_first` meets its contract: it is `place_again` where no ration is fed yet. Assumes nothing.
use Rattle.loads.specs.FirstLaws.{started_none, can_place_again, started_again}
use Rattle.loads.proofs.first.place_first.Goals as goal

pub place_again-requires : goal.place_again-requires
place_again-requires c = let p = c.requires in can_place_again (started_none p.windows) p

pub returns : goal.returns
returns c = started_again (started_none c.requires.windows) c.place_again.ensures
