-- `sheet::reader::form_refusal` meets its contract. Assumes nothing.
use mathlib.Core.Path.{sym, ◌∙◌}
use Prim.Native.Nat.{◌/◌, ◌≤◌}
use lib.ListN.{length}
use Rattle.std.proofs.Common.{arith}
use Rattle.std.proofs.lemmas.Grind.{common_steps}
use Rattle.line.specs.Layout.{line_bytes}
use Rattle.checks.specs.Limits.{max_bytes}
use Rattle.checks.specs.Sheet.{line_count}
use Rattle.checks.specs.Checks.{first_refusal, outside, length_faults, form_faults}
use Rattle.sheet.proofs.LineSteps.{first_some, first_none}
use Rattle.sheet.proofs.ReadSteps.{first_faulty_le}
use Rattle.sheet.proofs.reader.form_refusal.Goals as goal

pub returns-then-not-contains : goal.returns-then-not-contains
unfolding first_refusal outside length_faults
returns-then-not-contains c = grind (arith, common_steps)

pub overflow_cast-line : goal.overflow_cast-line
overflow_cast-line c =
    let f = first_some _ _ (sym c.in-Some.is ∙ c.first_faulty.ensures) in
    let most : length c.args.b.now ≤ max_bytes = grind (arith, common_steps) in
    omega (arith, f.0, first_faulty_le c.args.b.now 0 (length c.args.b.now / line_bytes), most)

pub returns-in-Some : goal.returns-in-Some
unfolding first_refusal outside length_faults form_faults line_count
returns-in-Some c =
    let f = first_some _ _ (sym c.in-Some.is ∙ c.first_faulty.ensures) in
    grind (arith, common_steps, f.0, f.1)

pub returns-in-None : goal.returns-in-None
unfolding first_refusal outside length_faults form_faults line_count
returns-in-None c =
    let z = first_none _ (sym c.in-None.is ∙ c.first_faulty.ensures) in
    grind (arith, common_steps, z)
