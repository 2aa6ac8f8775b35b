-- `Words::busy` meets its contract. Assumes nothing.
use Rattle.std.proofs.Common.{refl, sym, ◌∙◌, leb-true, leb-false}
use Rattle.placing.specs.StepLaws.{busied_high, busied_low, busied_search}
use Rattle.placing.proofs.Words.busy.Goals as goal

pub returns-then-self-t : goal.returns-then-self-t
returns-then-self-t c = record { busied = busied_high c.if-self-t.true; highs = refl }

pub returns-then-has_low : goal.returns-then-has_low
returns-then-has_low c =
    record { busied = busied_low (leb-true _ _ (sym c.has_low.ensures ∙ c.if-has_low.true)); highs = refl }

pub returns : goal.returns
returns c =
    record {
      busied = busied_search c.if-self-t.false (leb-false _ _ (sym c.has_low.ensures ∙ c.if-has_low.false)) c.raise.ensures;
      highs = refl;
    }
