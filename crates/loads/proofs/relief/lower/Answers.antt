-- `loads::relief::lower` meets its contract: only slot t can hold more than the new highs. Assumes nothing.
use Rattle.loads.specs.RelieveLaws.{lower_unload, lowered_held}
use Rattle.loads.proofs.relief.lower.Goals as goal

pub unload-requires : goal.unload-requires
unload-requires c = lower_unload c.requires c.args.h

pub returns : goal.returns
returns c = lowered_held c.requires c.args.h c.unload.ensures c.if-unload.false
