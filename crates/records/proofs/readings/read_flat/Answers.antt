-- `records::readings::read_flat` meets its contract. Assumes nothing.
use Rattle.std.proofs.Common.{◌∙◌}
use Rattle.records.specs.ReadSteps.{reading_flat}
use Rattle.records.proofs.readings.read_flat.Goals as goal

pub returns : goal.returns
returns c = c.read_numbers.ensures ∙ reading_flat c.args.slots c.args.blowers c.args.wake c.args.flat c.requires
