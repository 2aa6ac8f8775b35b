-- `Words::idle_or_cause` meets its contract. Assumes nothing.
use Rattle.std.proofs.Common.{refl, sym, ◌∙◌, leb-true, leb-false}
use Rattle.placing.specs.CauseSteps.{shortfall_marks, idle_low_cause, idle_high_yes, idle_search_yes, idle_search_no}
use Rattle.placing.proofs.Words.idle_or_cause.Goals as goal

pub returns-then-has_low : goal.returns-then-has_low
returns-then-has_low c =
    record { answered = idle_low_cause c.requires.1 (leb-true _ _ (sym c.has_low.ensures ∙ c.if-has_low.true)); spares = refl }

pub returns-then-self-t : goal.returns-then-self-t
returns-then-self-t c = record { answered = idle_high_yes c.requires.1 c.if-self-t.true; spares = refl }

pub returns-then-lower : goal.returns-then-lower
returns-then-lower c =
    record {
      answered =
          idle_search_yes c.requires.1 (leb-false _ _ (sym c.has_low.ensures ∙ c.if-has_low.false)) c.if-self-t.false
          c.lower.ensures c.if-lower.true;
      spares = refl;
    }

pub returns : goal.returns
returns c =
    record {
      answered =
          idle_search_no c.requires.1 (leb-false _ _ (sym c.has_low.ensures ∙ c.if-has_low.false)) c.if-self-t.false
          c.lower.ensures c.if-lower.false (shortfall_marks c.marked_words-first.ensures.0 c.marked_words-first.ensures.1);
      spares = refl;
    }
