-- `practice::rations::ration_numbers` meets its contract. Assumes nothing.
use Rattle.std.proofs.Common.{refl, ◌∙◌, arith}
use Rattle.practice.proofs.PracticeLaws.{drawing_begin, drawing_put, drawing_end}
use Rattle.practice.proofs.rations.ration_numbers.Goals as goal

pub loop-i-init : goal.loop-i-init
loop-i-init c = drawing_begin c.args.seed c.args.n c.requires

pub loop-i-preserved : goal.loop-i-preserved
loop-i-preserved c = drawing_put c.args.seed c.args.n c.loop-i.numbers c.loop-i.s c.loop-i.i c.loop-i.invariant c.loop-i-test.true _ _ _ (c.copy_from_slice.ensures.after ∙ c.draw_ration-ration.ensures.ration_drawn) refl c.draw_ration-ration.ensures.seed_drawn

pub returns : goal.returns
returns c = drawing_end c.args.seed c.args.n c.loop-i.numbers c.loop-i.s c.loop-i.i c.loop-i.invariant (omega (arith, c.loop-i.invariant.passed))
