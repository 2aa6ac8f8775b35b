-- Words that hold a placing of a day's rations. Each file's head says in a sentence what it is about.
-- What the words hold, as the layers above see them
pub mod Represents
pub mod CauseCalls
pub mod WordCalls
pub mod WordCallLaws
-- What the functions within the crate require and ensure, and the steps of their loops
pub mod Rations
pub mod Words
pub mod FeasibilityParts
pub mod RationLaws
pub mod WordLaws
pub mod ReadLaws
pub mod WindowSteps
pub mod StepLaws
pub mod CauseSteps
pub mod BeginLaws
pub mod FeasibilitySteps
pub mod HeldSteps
