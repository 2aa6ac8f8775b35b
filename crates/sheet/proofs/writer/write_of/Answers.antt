-- `sheet::writer::write_of` meets its contract. Assumes nothing.
use Rattle.sheet.proofs.writer.write_of.Goals as goal

pub returns : goal.returns
returns c = λ own s h. rw c.from.ensures (c.put_sheet.ensures own s h)
