-- `shares::calls::plan_share` meets its contract. Assumes nothing.
use mathlib.Core.Path.{◌∙◌}
use Rattle.shares.proofs.calls.plan_share.Goals as goal

pub returns : goal.returns
returns c = let u = c.plan_cut.ensures in
    record { value = c.from.ensures ∙ u.answer; listing_bytes = u.listed; placing_bytes = u.placed }
