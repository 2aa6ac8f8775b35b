-- `practice::draws::draw` meets its contract. Assumes nothing.
use Rattle.std.proofs.Common.{◌/◌, ap}
use Rattle.practice.proofs.DrawLaws.{next_from}
use Rattle.practice.proofs.draws.draw.Goals as goal

pub returns : goal.returns
returns c = let e = next_from c.args.seed.now c.wrapping_product.result _ c.wrapping_product.ensures c.wrapping_add_u32-next.ensures.value in record { value = ap (λ z. z / 65536) e; seed_drawn = e }
