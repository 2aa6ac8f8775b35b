-- `cases::payloads::first_part` meets its contract. Assumes nothing.
use Rattle.cases.proofs.PartLaws.{first_lent}
use Rattle.cases.proofs.payloads.first_part.Goals as goal

pub returns : goal.returns
returns c = first_lent (λ x. x.now) c.args.s.now c.args.length _ _ c.get.ensures.lookup c.unwrap_or_default.ensures
