-- `program::explain` meets its contract. Assumes nothing.
use Rattle.program.specs.ExplanationLaws.{explained_causes, explained_held, explained_refused}
use Rattle.program.proofs.explain.Goals as goal

pub returns-then-listed-eq0 : goal.returns-then-listed-eq0
returns-then-listed-eq0 c = explained_causes c.args.b.now c.list_causes-listed.new.out c.list_causes-listed.result c.list_causes-listed.ensures.value c.list_causes-listed.ensures.out_bytes c.if-listed-eq0.true

pub returns-then-listed-eq-NO_PLACING : goal.returns-then-listed-eq-NO_PLACING
returns-then-listed-eq-NO_PLACING c = explained_held c.args.b.now c.list_causes-listed.new.out c.list_causes-listed.result c.list_causes-listed.ensures.value c.list_causes-listed.ensures.out_bytes c.if-listed-eq0.false c.if-listed-eq-NO_PLACING.true c.plan-planned.ensures.value c.plan-planned.ensures.listing_bytes

pub returns : goal.returns
returns c = explained_refused c.args.b.now c.list_causes-listed.new.out c.list_causes-listed.result c.list_causes-listed.ensures.value c.list_causes-listed.ensures.out_bytes c.if-listed-eq0.false c.if-listed-eq-NO_PLACING.false c.put_refusal-length.ensures
