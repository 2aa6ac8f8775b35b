-- `Words::raise_or_mark` meets its contract. Assumes nothing.
use Rattle.std.proofs.Common.{refl, arith}
use Rattle.loads.specs.MarkLaws.{marked_held}
use Rattle.placing.specs.StepLaws.{busied_search}
use Rattle.placing.specs.CauseSteps.{busied_narrow, marked_cause, busy_search_cause}
use Rattle.placing.proofs.Words.raise_or_mark.Goals as goal

pub returns-then-width-k : goal.returns-then-width-k
returns-then-width-k c =
    let p = c.requires in
    record {
      busied =
          record {
            busied = busied_narrow p.1 p.2 c.mark_excess.ensures p.0 (omega (arith, c.width.ensures.0, c.if-width-k.true));
            highs = refl;
          };
      marks_long = λ e. c.mark_excess.ensures.long;
      marked = λ e x. marked_cause p.1 p.2 c.mark_excess.ensures;
    }

pub returns : goal.returns
returns c =
    let p = c.requires in
    record {
      busied = record { busied = busied_search p.1 p.2 c.raise.ensures; highs = refl };
      marks_long = λ e. (marked_held (c.raise.ensures.wide (omega (arith, c.width.ensures.0, c.if-width-k.false))) e).long;
      marked = λ e x. busy_search_cause p.1 p.2 c.raise.ensures e (omega (arith, c.width.ensures.0, c.if-width-k.false));
    }
