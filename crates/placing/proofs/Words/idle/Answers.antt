-- `Words::idle` meets its contract. Assumes nothing.
use Rattle.std.proofs.Common.{refl, sym, ◌∙◌, leb-true, leb-false}
use Rattle.placing.specs.StepLaws.{idled_low, idled_high, idled_search}
use Rattle.placing.proofs.Words.idle.Goals as goal

pub returns-then-has_low : goal.returns-then-has_low
returns-then-has_low c =
    record { idled = idled_low c.requires.1 (leb-true _ _ (sym c.has_low.ensures ∙ c.if-has_low.true)); spares = refl }

pub returns-then-self-t : goal.returns-then-self-t
returns-then-self-t c = record { idled = idled_high c.requires.1 c.if-self-t.true; spares = refl }

pub returns : goal.returns
returns c =
    record {
      idled =
          idled_search c.requires.1 (leb-false _ _ (sym c.has_low.ensures ∙ c.if-has_low.false)) c.if-self-t.false c.lower.ensures;
      spares = refl;
    }
