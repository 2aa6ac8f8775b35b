-- Parallel Left-to-Right. First the definitions, then the main theorems, then the laws that prove them. Each file's
-- head says in a sentence what it is about.
pub mod Method
pub mod Feedings
pub mod Intervals
pub mod Keeping
pub mod StopsAt
pub mod SettledRuns
pub mod Worded
pub mod Endings
pub mod Slotwise
pub mod SlotwiseEndings
pub mod FeedingResidual
pub mod FrontRunLaws
pub mod FeedingFunctions
pub mod FeedingUndecided
