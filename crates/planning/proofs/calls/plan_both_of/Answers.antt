-- `planning::calls::plan_both_of` meets its contract. Assumes nothing.
use Rattle.schedules.specs.Demands.{full_high}
use Rattle.planning.proofs.DayLaws.{highs_full, highs_alone}
use Rattle.planning.proofs.calls.plan_both_of.Goals as goal

pub plan_under-requires : goal.plan_under-requires
plan_under-requires c = λ z. record { high = _; are = highs_full c.read_highs-highs.ensures }

pub returns : goal.returns
returns c = λ own s h. let u = c.plan_under.ensures own s h (full_high s) (λ z. highs_alone h z c.read_highs-highs.ensures) in (u.listed, u.placed)
