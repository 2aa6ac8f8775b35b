-- Definitions
pub mod Entries
-- Laws of the definitions
pub mod FittingLaws
-- What the functions within the crate require and ensure, and the steps of their loops
pub mod SlotCalls
pub mod SlotLaws
pub mod EntryCalls
pub mod EntrySteps
