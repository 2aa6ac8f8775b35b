-- `feedings::feed::feed_resting` meets its contract where no search is made. Assumes nothing.
use Rattle.std.proofs.Common.{refl, sym, ◌∙◌}
use borrow.Author.Tests.{eqb-false}
use Rattle.feedings.specs.CellChoiceLaws.{answered_full}
use Rattle.feedings.specs.CellMayLaws.{answered_not_may}
use Rattle.feedings.proofs.feed.feed_resting.Goals as goal
use Rattle.feedings.proofs.feed.feed_resting.Goals.{then-words-t-eq0-via-then-words-t-eq0, then-words-t-eq0-via-else-words-t-eq0+then-not-has_bit}

pub returns-then-words-t-eq0 : goal.returns-then-words-t-eq0
returns-then-words-t-eq0 c = let p = c.requires in record {
  answered = (
    elim c.then-words-t-eq0.branch [
      | then-words-t-eq0-via-then-words-t-eq0 w ↦ answered_full p.0 w.if-words-t-eq0.true
      | then-words-t-eq0-via-else-words-t-eq0+then-not-has_bit w ↦ answered_not_may p.0 p.1 (eqb-false _ _ (sym w.has_bit.ensures ∙ w.if-not-has_bit.true))
    ],
    p.1,
  );
  spares = refl;
}
