-- `placing::feasibility::is_feasible` meets its contract. Assumes nothing.
use Rattle.std.proofs.Common.{arith, ap, length, ◌∙◌}
use Rattle.placing.specs.FeasibilitySteps.{some_short, can_begin, begun_not, begun_day, begun_low_day}
use Rattle.placing.proofs.feasibility.is_feasible.Goals as goal

pub begin-requires : goal.begin-requires
begin-requires c = can_begin c.requires.day c.requires.highs (ap (λ w. length w.spare) c.new-words.ensures)

pub raise_lows-requires : goal.raise_lows-requires
raise_lows-requires c = (
  begun_low_day c.args.low.now (some_short c.requires.day) c.requires.lows c.requires.highs c.begin.ensures c.requires.day.demands c.requires.day.words
      (c.if-begin.true),
  omega (arith, c.requires.lows, some_short c.requires.day),
  c.requires.lows,
)

pub returns-then-begin : goal.returns-then-begin
returns-then-begin c ds d = c.raise_lows.ensures _ _ (begun_day c.args.low.now (some_short c.requires.day) c.requires.lows c.requires.highs c.begin.ensures ds d (c.if-begin.true))

pub returns-else-begin : goal.returns-else-begin
returns-else-begin c ds d =
    c.if-begin.false ∙ begun_not c.args.low.now (some_short c.requires.day) c.requires.lows c.requires.highs c.begin.ensures ds d (c.if-begin.false)
