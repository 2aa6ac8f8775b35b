-- The choice of feedings. Each file's head says in a sentence what it is about.
-- One cell: what the functions require and ensure, and the laws of their steps
pub mod CellChoice
pub mod ExactlyLaws
pub mod CellWordLaws
pub mod CellSearchLaws
pub mod CellMayLaws
pub mod CellChoiceLaws
pub mod ScheduleWordLaws
-- A slot and a day: the same
pub mod FeedingState
pub mod FeedingCalls
pub mod FeedingLoopLaws
