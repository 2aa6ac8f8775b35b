-- `feedings::feed::feed_along` meets its contract. Assumes nothing.
use Rattle.std.proofs.Common.{refl, None, Some}
use Rattle.feedings.specs.CellChoiceLaws.{answered_nowhere, replace_found, first_position}
use Rattle.feedings.proofs.feed.feed_along.Goals as goal

pub returns-in_default : goal.returns-in_default
returns-in_default c = let p = c.requires in
    record { answered = (answered_nowhere p.0 (first_position _ _ p.0.feed.words.grid.fed None c.in_default.ensures) refl, p.2); spares = refl }

pub feed_instead-can-requires : goal.feed_instead-can-requires
feed_instead-can-requires c = let p = c.requires in
    replace_found p.0 p.1 (first_position _ _ p.0.feed.words.grid.fed (Some c.in-Some.z) c.in-Some.ensures)
