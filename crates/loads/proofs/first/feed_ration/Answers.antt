-- `loads::first::feed_ration` meets its contract: the second pass, with room everywhere, leaves no feeding to make. Assumes nothing.
use Rattle.loads.specs.FirstLaws.{ration_fed}
use Rattle.loads.proofs.first.feed_ration.Goals as goal

pub returns : goal.returns
returns c = ration_fed c.requires c.feed_pass-left.ensures c.feed_pass.ensures
