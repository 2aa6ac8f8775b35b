-- `sheet::reader::padded_numbers` meets its contract. Assumes nothing.
use Rattle.std.specs.Prelude.{◌++◌, ◌*◌, length, drop, replicate}
use Rattle.std.proofs.Common.{ap, ◌∙◌, arith, length-take, length-drop}
use Rattle.std.proofs.lemmas.List.{length-replicate, drop-replicate}
use Rattle.line.specs.Layout.{fields}
use Rattle.checks.specs.Limits.{max_rations}
use Rattle.common.specs.Buffers.{padded}
use Rattle.sheet.proofs.reader.padded_numbers.Goals as goal

pub copy_from_slice-requires : goal.copy_from_slice-requires
copy_from_slice-requires c = simp (length-take, length-drop, length-replicate) (omega (arith, c.requires))

pub returns : goal.returns
unfolding padded
returns c =
    ap (λ ws. ws ++ drop (length c.args.numbers.now) (replicate (fields * max_rations) 0)) c.copy_from_slice.ensures.after
    ∙ ap (λ ws. c.args.numbers.now ++ ws) (drop-replicate (length c.args.numbers.now) (fields * max_rations) 0)
