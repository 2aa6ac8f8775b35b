-- `stretches::planning::plan_words` meets its contract. Assumes nothing.
use Rattle.std.proofs.Common.{ap, length}
use Rattle.stretches.proofs.DayLaws.{can_begin_words, can_choose_words, words_planned, words_held}
use Rattle.stretches.proofs.planning.plan_words.Goals as goal

pub begin-requires : goal.begin-requires
begin-requires c = can_begin_words c.args.blowers c.requires (ap (λ w. length w.spare) c.new-words.ensures)

pub choose_day-plan-requires : goal.choose_day-plan-requires
choose_day-plan-requires c = can_choose_words c.args.blowers c.requires c.begin.ensures c.if-begin.true

pub returns-then-begin : goal.returns-then-begin
returns-then-begin c = words_planned c.args.blowers c.requires c.begin.ensures c.if-begin.true c.choose_day-plan.ensures

pub returns : goal.returns
returns c = words_held c.args.blowers c.requires c.begin.ensures c.if-begin.false c.marked_loads-forced.ensures c.marked_highs-capacity.ensures
