-- `program::make_sheet` meets its contract. Assumes nothing.
use mathlib.Core.Path.{sym, ◌∙◌}
use Rattle.practice.proofs.SeedLaws.{seed_length, seed_read}
use Rattle.program.specs.MadeSheetLaws.{made_refused, made_written}
use native.Mathlib.Omega.{arith}
use Rattle.program.proofs.make_sheet.Goals as goal

pub returns-then-seed_faulty : goal.returns-then-seed_faulty
returns-then-seed_faulty c = made_refused c.args.b.now (sym c.seed_faulty.ensures ∙ c.if-seed_faulty.true) c.put_refusal-length.ensures

pub field_number-requires : goal.field_number-requires
field_number-requires c = omega (arith, seed_length c.args.b.now (sym c.seed_faulty.ensures ∙ c.if-seed_faulty.false))

pub returns : goal.returns
returns c = made_written c.args.b.now (sym c.seed_faulty.ensures ∙ c.if-seed_faulty.false) c.field_number.result (seed_read c.args.b.now c.field_number.ensures) c.write_practice-written.ensures.value c.write_practice-written.ensures.out_bytes
