-- `energy::day::CountedDay::stretch_at` meets its contract. Assumes nothing.
use Rattle.energy.specs.Energy.{listed}
use Rattle.energy.specs.StretchLaws.{stretch_at_ends}
use Rattle.energy.proofs.day.CountedDay.stretch_at.Goals as goal

pub returns : goal.returns
unfolding listed
returns c = rw (
  stretch_at_ends _ c.stretch_end-last.ensures,
  c.state-state.ensures,
  c.is_busy-busy.ensures,
)
