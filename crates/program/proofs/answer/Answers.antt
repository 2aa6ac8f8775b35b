-- `program::answer` meets its contract. Assumes nothing.
use Rattle.planning.proofs.CallAnswers.{writes_nothing}
use Rattle.program.specs.OutputLaws.{writes_either, output_listed, output_refused}
use Rattle.program.proofs.answer.Goals as goal

pub returns-then-planned-eq0 : goal.returns-then-planned-eq0
returns-then-planned-eq0 c = output_listed c.args.b.now c.plan-planned.new.listing c.plan-planned.result c.plan-planned.ensures.value c.plan-planned.ensures.listing_bytes (writes_either _ c.then-planned-eq0.either)

pub returns : goal.returns
returns c = output_refused c.args.b.now c.plan-planned.new.listing c.plan-planned.result c.plan-planned.ensures.value c.plan-planned.ensures.listing_bytes (writes_nothing _ c.if-planned-eq0.false c.if-planned-eq-NO_PLACING.false) c.put_refusal-length.ensures
