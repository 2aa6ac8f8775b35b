-- `loads::first::set_volume` meets its contract: a smaller volume is a greater one of the exchanged words. Assumes
-- nothing.
use Rattle.loads.specs.FirstLaws.{set_fewer}
use native.Mathlib.Omega.{arith}
use Rattle.loads.proofs.first.set_volume.Goals as goal

pub returns-else-old-new : goal.returns-else-old-new
returns-else-old-new c = set_fewer c.requires (omega arith) c.feed_ration-else-old-new.ensures
