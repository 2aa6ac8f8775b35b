-- `practice::rations::draw_ration` meets its contract. Assumes nothing.
use Rattle.practice.proofs.DrawLaws.{three_seeds, ration_drawn}
use Rattle.practice.proofs.rations.draw_ration.Goals as goal

pub returns : goal.returns
returns c = record {
  ration_drawn = ration_drawn c.args.seed.now _ _ _ c.draw.result c.draw-2.result c.draw-3.result c.draw.ensures.value c.draw.ensures.seed_drawn c.draw-2.ensures.value c.draw-2.ensures.seed_drawn c.draw-3.ensures.value c.draw-3.ensures.seed_drawn c.args.tank;
  seed_drawn = three_seeds c.args.seed.now _ _ _ c.draw.result c.draw-2.result c.draw-3.result c.draw.ensures.value c.draw.ensures.seed_drawn c.draw-2.ensures.value c.draw-2.ensures.seed_drawn c.draw-3.ensures.value c.draw-3.ensures.seed_drawn;
}
