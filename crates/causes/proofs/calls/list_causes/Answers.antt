-- `causes::calls::list_causes` meets its contract. Assumes nothing.
use mathlib.Core.Path.{◌∙◌}
use Rattle.causes.proofs.calls.list_causes.Goals as goal

pub returns : goal.returns
returns c = record { value = c.from.ensures ∙ c.list_extent.ensures.0; out_bytes = c.list_extent.ensures.1 }
