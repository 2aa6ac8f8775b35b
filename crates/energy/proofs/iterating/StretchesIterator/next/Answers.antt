-- `energy::iterating::Stretches::next` meets its contract. Assumes nothing.
use Rattle.std.specs.Prelude.{◌≡◌, [], ◌∷◌}
use Rattle.std.proofs.Common.{arith, ap, length}
use Rattle.energy.specs.StretchLaws.{Found, found, left_next, left_end}
use Rattle.energy.specs.Listed.{listing_of}
use Rattle.energy.specs.Left.{left}
use Rattle.energy.proofs.iterating.StretchesIterator.next.Goals as goal
use Rattle.energy.proofs.iterating.StretchesIterator.next.Goals.{After-stretch_at-stretch}

-- the stretch found begins after the last one
begins : (c : After-stretch_at-stretch)
    → Found c.args.self.now.day.wake c.args.self.now.day.counts.now (length c.args.self.now.day.counts.now) c.args.self.now.blower c.args.self.now.from (listing_of c.stretch_at-stretch.result)
begins c =
    found (omega arith)
    (omega (arith, c.args.self.now.in_day, c.if-self.false))
    c.stretch_at-stretch.ensures

pub returns-then-self-clause-steps : goal.returns-then-self-clause-steps
returns-then-self-clause-steps c =
    let none : left c.args.self.now ≡ [] = left_end _ _ _ _ c.if-self.true in
    (none, none)

pub invariant_of-self : goal.invariant_of-self
invariant_of-self c = record { in_day = (begins c).ends.within }

pub returns-clause-steps : goal.returns-clause-steps
returns-clause-steps c = left_next (begins (goal.at.returns-clause-steps c).After-stretch_at-stretch)

pub returns-clause-goes : goal.returns-clause-goes
returns-clause-goes c =
    let next : left c.args.self.now ≡ listing_of c.stretch_at-stretch.result ∷ _ = left_next (begins (goal.at.returns-clause-goes c).After-stretch_at-stretch) in
    record { on = λ _. (tt, tt, omega (arith, ap length next)); keeps = tt; rests = λ _. tt }
