-- `practice::write_practice` meets its contract: the numbers drawn are those of the sheet. Assumes nothing.
use Rattle.std.proofs.Common.{◌%◌, refl}
use Rattle.practice.specs.Practice.{practice_job}
use Rattle.practice.proofs.DrawLaws.{three_seeds, three_drawn}
use Rattle.practice.proofs.PracticeLaws.{front_numbers, drawn_written}
use Rattle.practice.proofs.write_practice.Goals as goal

pub returns : goal.returns
returns c = let d = three_drawn c.args.seed _ _ _ c.draw.result c.draw-wake.result c.draw-rations.result c.draw.ensures.value c.draw.ensures.seed_drawn c.draw-wake.ensures.value c.draw-wake.ensures.seed_drawn c.draw-rations.ensures.value c.draw-rations.ensures.seed_drawn refl refl refl in let all = drawn_written c.args.seed _ _ _ _ d.0 d.1 d.2 (front_numbers (practice_job c.args.seed) (c.draw-rations.result % 65) _ (c.ration_numbers-numbers.ensures c.args.seed (three_seeds c.args.seed _ _ _ c.draw.result c.draw-wake.result c.draw-rations.result c.draw.ensures.value c.draw.ensures.seed_drawn c.draw-wake.ensures.value c.draw-wake.ensures.seed_drawn c.draw-rations.ensures.value c.draw-rations.ensures.seed_drawn))) c.args.out.now (c.write.ensures.value, c.write.ensures.out_bytes) in record { value = all.0; out_bytes = all.1 }
