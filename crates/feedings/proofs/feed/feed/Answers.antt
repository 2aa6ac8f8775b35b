-- `feedings::feed::feed` meets its contract. Assumes nothing.
use mathlib.Core.Path.{refl, sym, ◌∙◌}
use borrow.Author.Tests.{eqb-true, eqb-false}
use Rattle.feedings.specs.CellChoiceLaws.{loaded, decided_fed, askable, decided_asked}
use Rattle.feedings.specs.CellMayLaws.{may_out_fed, may_out_rest}
use Rattle.feedings.proofs.feed.feed.Goals as goal

pub overflow_sub-words : goal.overflow_sub-words
overflow_sub-words c = loaded c.requires.0 _ (eqb-true _ _ (sym c.has_bit.ensures ∙ c.if-has_bit.true)) c.drop_bit.ensures

pub returns-then-has_bit : goal.returns-then-has_bit
returns-then-has_bit c = let h = eqb-true _ _ (sym c.has_bit.ensures ∙ c.if-has_bit.true) in
    record { decided = (decided_fed c.requires.0 _ h c.drop_bit.ensures, may_out_fed c.requires.0 h c.drop_bit.ensures c.requires.1); spares = refl }

pub feed_resting-requires : goal.feed_resting-requires
feed_resting-requires c = let h = eqb-true _ _ (sym c.has_bit-2.ensures ∙ c.if-not-has_bit.false) in (
  askable c.requires.0 (eqb-false _ _ (sym c.has_bit.ensures ∙ c.if-has_bit.false)) _ h c.drop_bit-2.ensures,
  may_out_rest c.requires.0 h c.drop_bit-2.ensures c.requires.1,
)

pub returns : goal.returns
returns c = let h = eqb-true _ _ (sym c.has_bit-2.ensures ∙ c.if-not-has_bit.false) in record {
  decided = (
    decided_asked c.requires.0 (eqb-false _ _ (sym c.has_bit.ensures ∙ c.if-has_bit.false)) _ h c.drop_bit-2.ensures c.feed_resting.ensures.answered.0,
    c.feed_resting.ensures.answered.1,
  );
  spares = c.feed_resting.ensures.spares;
}
