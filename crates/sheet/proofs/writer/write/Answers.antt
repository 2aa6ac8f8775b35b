-- `sheet::writer::write` meets its contract: it writes what is read of the numbers. Assumes nothing.
use Rattle.sheet.proofs.OwnCheckLaws.{flat_checked}
use Rattle.sheet.proofs.WriteSteps.{wrote_flat}
use Rattle.sheet.proofs.writer.write.Goals as goal

pub returns-clause-value : goal.returns-clause-value
returns-clause-value c = let a = c.args in
    (wrote_flat a.slots a.blowers a.wake a.rations a.numbers.now a.out.now _ _ (c.write_of.ensures _ _
    (record {
      checks = flat_checked a.slots a.blowers a.wake a.rations a.numbers.now;
      is = c.read_numbers.ensures;
    }))).0

pub returns-clause-out_bytes : goal.returns-clause-out_bytes
returns-clause-out_bytes c = let a = c.args in
    (wrote_flat a.slots a.blowers a.wake a.rations a.numbers.now a.out.now _ _ (c.write_of.ensures _ _
    (record {
      checks = flat_checked a.slots a.blowers a.wake a.rations a.numbers.now;
      is = c.read_numbers.ensures;
    }))).1
