-- `planning::calls::day_of` meets its contract. Assumes nothing.
use Rattle.schedules.specs.Demands.{full_high}
use Rattle.planning.proofs.DayLaws.{highs_full, highs_alone}
use Rattle.planning.proofs.calls.day_of.Goals as goal

pub day_under-requires : goal.day_under-requires
day_under-requires c = record { high = _; are = highs_full c.full_highs.ensures }

pub returns : goal.returns
returns c = λ own s h z. c.day_under.ensures own s h z (full_high s) (highs_alone h z c.full_highs.ensures)
