-- `cases::Case::parts` meets its contract. Assumes nothing.
use Rattle.cases.proofs.PartLaws.{first_split, second_split}
use Rattle.cases.proofs.Case.parts.Goals as goal

pub returns-clause-first : goal.returns-clause-first
returns-clause-first c = first_split (λ x. x.now) c.args.self.now.payload.now c.args.self.now.number _ _ c.split_at_checked.ensures.cases c.unwrap_or_default.ensures

pub returns-clause-second : goal.returns-clause-second
returns-clause-second c = second_split (λ x. x.now) c.args.self.now.payload.now c.args.self.now.number _ _ c.split_at_checked.ensures.cases c.unwrap_or_default.ensures
