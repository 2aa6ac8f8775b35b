-- `cases::buffers::front` meets its contract. Assumes nothing.
use Rattle.cases.proofs.PartLaws.{first_lent}
use Rattle.cases.proofs.buffers.front.Goals as goal

pub returns : goal.returns
returns g c = first_lent (λ x. x.now) c.args.room.now c.args.count _ _ c.get_mut.ensures.lookup c.unwrap_or_default.ensures
