-- What a caller of this crate knows: how its contracts, in words, become statements about placings. `State` (Meaning)
-- is what the calls keep. Assumes nothing.

-- windows and volumes: what `place_first` requires, and that it makes a placing
pub use Rattle.loads.specs.StartLaws.{given_start, started_places}
-- `relieve`: a placing within the highs; or no placing is, and the marks are the least set of greatest shortfall
pub use Rattle.loads.specs.StartLaws.{relieved_state, relieved_none, relieved_critical}
-- a state is a placing with each count from low to high
pub use Rattle.loads.specs.StateLaws.{state_placing, state_within}
-- `lower`: the state with the new high; or the state as it was, and no placing keeps the new high
pub use Rattle.loads.specs.StateLaws.{state_lower, lowered_state, lowered_kept, lowered_none}
-- `raise`: the state with the new low; or the state as it was, and no placing keeps the new low
pub use Rattle.loads.specs.StateLaws.{state_raise}
pub use Rattle.loads.specs.RaiseLaws.{raised_state, raised_kept, raised_none}
-- what the marks show, of any grid that is held
pub use Rattle.loads.specs.HeldLaws.{held_critical, held_none}
-- `mark_over`, `mark_excess`: the state as it was, and the marks are the least set of greatest shortfall, or of
-- greatest excess
pub use Rattle.loads.specs.MarkLaws.{over_kept, over_critical, marked_kept, marked_excess}
