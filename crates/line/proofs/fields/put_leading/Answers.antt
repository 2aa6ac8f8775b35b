-- `line::fields::put_leading` meets its contract. Assumes nothing.
use Rattle.std.proofs.Common.{◌-◌, sym, ap, ◌∙◌, arith, ◌≡◌, replicate, append-nil, drop_of_length-le}
use Rattle.line.specs.Layout.{width, blank}
use Rattle.line.specs.Field.{leading}
use Rattle.line.specs.ColumnLaws.{leading_zero}
use Rattle.line.specs.PutLaws.{leading_next}
use Rattle.line.proofs.fields.put_leading.Goals as goal

pub returns-then-rest-eq0 : goal.returns-then-rest-eq0
returns-then-rest-eq0 c =
    c.fill.ensures.after (λ y e. e) ∙ ap (λ n. replicate n blank) c.requires ∙ sym (leading_zero (width - 2)) ∙ ap (leading (width - 2)) (sym c.if-rest-eq0.true)

pub loop-i-init : goal.loop-i-init
loop-i-init c = rw (drop_of_length-le c.args.columns.now {i = width - 2} (omega arith), append-nil)

pub loop-i-preserved : goal.loop-i-preserved
loop-i-preserved c =
    c.loop-i.invariant ∙ rw c.column_byte.ensures (leading_next c.loop-i.columns c.loop-i.i c.loop-i.left c.loop-i-test.true (omega arith))

pub returns : goal.returns
unfolding leading
returns c = let none : c.loop-i.i ≡ 0 = omega arith in sym (rw none at c.loop-i.invariant)
