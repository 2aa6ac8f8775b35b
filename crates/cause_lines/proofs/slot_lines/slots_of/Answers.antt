-- `cause_lines::slot_lines::slots_of` meets its contract. Assumes nothing.
use Rattle.cause_lines.specs.SlotLaws.{slots_in}
use Rattle.cause_lines.proofs.slot_lines.slots_of.Goals as goal

pub returns : goal.returns
returns c = slots_in c.requires c.words_of-first.ensures c.in_day.ensures c.in_day-2.ensures
