-- `stretches::settle::step` meets its contract: the blower stays as it is, or changes over. Assumes nothing.
use Rattle.stretches.proofs.SettlingLaws.{stays, turns}
use Rattle.stretches.proofs.settle.step.Goals as goal

pub returns-then-keep : goal.returns-then-keep
returns-then-keep c = stays c.keep.ensures c.if-keep.true

pub returns : goal.returns
returns c = turns c.keep.ensures c.if-keep.false c.keep-2.ensures
