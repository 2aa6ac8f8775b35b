-- `cause_lines::entries::put_entry` meets its contract. Assumes nothing.
use Rattle.cause_lines.specs.EntrySteps.{entry_put}
use Rattle.cause_lines.proofs.entries.put_entry.Goals as goal

pub returns : goal.returns
returns c = entry_put c.requires c.number_of-number.ensures c.put_line.ensures c.put_slots-n.ensures c.put_slots.ensures
