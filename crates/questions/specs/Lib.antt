-- An outsider's questions about a sheet. Each file's head says in a sentence what it is about.
-- Definitions
pub mod Calls
-- What a reader of the answers looks for
pub mod CallLaws
-- For tables of days
pub mod Text
pub mod Meanings
-- What the functions within the crate require and ensure, and the steps of their loops
pub mod ShortfallParts
pub mod BoundsParts
pub mod SignedSteps
pub mod ShortfallSteps
pub mod BoundsSteps
