-- `sheet::reader::ration_numbers` meets its contract. Assumes nothing.
use mathlib.Core.Path.{◌≡◌, ap, ◌∙◌}
use Prim.Native.Nat.{◌+◌, ◌*◌}
use lib.ListN.{length}
use Rattle.std.proofs.Common.{arith}
use Rattle.common.specs.Buffers.{padded, put_at}
use Rattle.common.specs.BufferLaws.{length_padded}
use Rattle.line.specs.Layout.{fields}
use Rattle.checks.specs.Limits.{max_rations}
use Rattle.checks.specs.Sheet.{job_at, job_numbers, numbers_to}
use Rattle.checks.specs.NumbersLaws.{length_numbers_to, numbers_to_none, numbers_to_next}
use Rattle.sheet.proofs.reader.ration_numbers.Goals as goal

pub loop-i-init : goal.loop-i-init
loop-i-init c = numbers_to_none (job_at c.args.b.now)

pub put_numbers-requires : goal.put_numbers-requires
put_numbers-requires c = record { there = omega arith; long = ap length c.loop-i.invariant ∙ length_padded (fields * max_rations) (numbers_to (job_at c.args.b.now) c.loop-i.i) (omega (arith, length_numbers_to (job_at c.args.b.now) c.loop-i.i)); room = omega arith }

pub loop-i-preserved : goal.loop-i-preserved
loop-i-preserved c = c.put_numbers.ensures ∙ ap (put_at (fields * c.loop-i.i) (job_numbers (job_at c.args.b.now (c.loop-i.i + 1)))) c.loop-i.invariant
    ∙ numbers_to_next (job_at c.args.b.now) c.loop-i.i

pub returns : goal.returns
returns c = let e : c.loop-i.i ≡ c.args.n = omega arith in c.loop-i.invariant ∙ ap (λ k. padded (fields * max_rations) (numbers_to (job_at c.args.b.now) k)) e
