-- Definitions, in reading order
pub mod Sizes
pub mod Lines
pub mod Text
pub mod PlacingForms
pub mod Inputs
-- The words and the byte grid of one placing mark the same feedings
-- What the functions within the crate require and ensure, and the steps of their loops
pub mod Putting
pub mod SetBits
pub mod FeedLaws
pub mod StretchSteps
pub mod FeedSteps
