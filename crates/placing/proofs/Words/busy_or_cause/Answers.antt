-- `Words::busy_or_cause` meets its contract. Assumes nothing.
use Rattle.std.proofs.Common.{refl, sym, ◌∙◌, leb-true}
use Rattle.placing.specs.CauseSteps.{excess_marks, busy_high_cause, busy_low_yes, busied_yes, busied_no}
use Rattle.placing.proofs.Words.busy_or_cause.Goals.{then-has_low-via-then-has_low, then-has_low-via-else-has_low+then-raise_or_mark}
use Rattle.placing.proofs.Words.busy_or_cause.Goals as goal

pub returns-then-self-t : goal.returns-then-self-t
returns-then-self-t c = record { answered = busy_high_cause c.if-self-t.true; highs = refl }

pub returns-then-has_low : goal.returns-then-has_low
returns-then-has_low c =
    elim c.then-has_low.branch [
      | then-has_low-via-then-has_low w ↦
          rw w.self-is
          (record { answered = busy_low_yes (leb-true _ _ (sym c.has_low.ensures ∙ w.if-has_low.true)); highs = refl })
      | then-has_low-via-else-has_low+then-raise_or_mark w ↦
          let m = w.raise_or_mark.ensures in
          rw w.self-is (record { answered = busied_yes m.busied.busied w.if-raise_or_mark.true; highs = m.busied.highs })
    ]

pub returns : goal.returns
returns c =
    let m = c.raise_or_mark.ensures in
    let w = c.marked_words-first.ensures in
    record {
      answered = busied_no m.busied.busied c.if-raise_or_mark.false (m.marked c.if-raise_or_mark.false _ (excess_marks w.0 w.1));
      highs = m.busied.highs;
    }
