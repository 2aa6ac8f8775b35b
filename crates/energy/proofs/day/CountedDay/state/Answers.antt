-- `energy::day::CountedDay::state` meets its contract. Assumes nothing.
use Rattle.energy.specs.UsageSteps.{state_busy, state_first, state_last, state_off, state_on}
use Rattle.energy.proofs.day.CountedDay.state.Goals as goal

pub returns-then-busy : goal.returns-then-busy
returns-then-busy c = state_busy _ _ _ _ _ c.if-busy.true

pub returns-then-first-eq1 : goal.returns-then-first-eq1
returns-then-first-eq1 c = state_first _ _ _ _ _ c.if-busy.false c.if-first-eq1.true

pub returns-then-last-self : goal.returns-then-last-self
returns-then-last-self c = state_last _ _ _ _ _ c.if-busy.false c.if-last-self.true

pub returns-then-self-last : goal.returns-then-self-last
returns-then-self-last c = state_off _ _ _ _ _ c.if-busy.false c.requires.0 c.if-self-last.true

pub returns : goal.returns
returns c = state_on _ _ _ _ _ c.if-busy.false c.requires.0 c.if-first-eq1.false c.if-last-self.false c.if-self-last.false
