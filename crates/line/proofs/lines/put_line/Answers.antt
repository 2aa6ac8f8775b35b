-- `line::lines::put_line` meets its contract: the four fields side by side, then byte 10. Assumes nothing.
use Rattle.line.specs.PutLaws.{put_line}
use Rattle.line.proofs.lines.put_line.Goals as goal

pub returns : goal.returns
returns c = put_line c.args.at c.args.a c.args.b c.args.c c.args.d c.args.out.now _ _ _ _ c.requires c.put_field.ensures c.put_field-2.ensures c.put_field-3.ensures c.put_field-4.ensures
