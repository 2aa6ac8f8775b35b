-- `placing::windows::mark_window` meets its contract: after t slots those of the window before slot t have the bit.
-- Assumes nothing.
use Rattle.placing.specs.WindowSteps.{mark_bit}
use Rattle.placing.proofs.windows.mark_window.Goals as goal

pub add_bit-requires : goal.add_bit-requires
add_bit-requires c = mark_bit _ _ _ _ c.requires _ _ c.loop-t.invariant
