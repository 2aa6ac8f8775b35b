-- `loads::first::feed_slot` meets its contract where ration j is fed in slot t. Assumes nothing.
use Rattle.std.proofs.Common.{sym, ◌∙◌, arith}
use borrow.Author.Tests.{eqb-true}
use Rattle.loads.specs.FirstLaws.{slot_one}
use Rattle.loads.proofs.first.feed_slot.Goals as goal

pub returns : goal.returns
returns c = let m = c.move_bit.ensures in
    slot_one c.requires (eqb-true _ _ (sym c.has_bit.ensures ∙ c.if-not-has_bit.false)) _ _ m.1 m.0 (omega (arith, c.if-left-eq0.false))
