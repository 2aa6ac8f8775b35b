-- `feedings::feed::feed_instead` meets its contract. Assumes nothing.
use Rattle.std.proofs.Common.{refl}
use Rattle.feedings.specs.CellSearchLaws.{replace_push, replaced_yes, replaced_no}
use Rattle.feedings.proofs.feed.feed_instead.Goals as goal

pub push_along-requires : goal.push_along-requires
push_along-requires c = let m = c.move_bit.ensures in replace_push c.requires _ _ m.0 m.1

pub returns-then-push_along : goal.returns-then-push_along
returns-then-push_along c = let m = c.move_bit.ensures in record { replaced = replaced_yes c.requires _ _ m.0 m.1 c.push_along.ensures c.if-push_along.true; spares = refl }

pub returns : goal.returns
returns c = let m = c.move_bit.ensures in record { replaced = replaced_no c.requires _ _ m.0 m.1 c.push_along.ensures c.if-push_along.false; spares = refl }
