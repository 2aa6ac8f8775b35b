-- Definitions
pub mod Calls
pub mod Accepted
pub mod FeedSheets
-- The theorems a reader looks for
-- Laws of the definitions
pub mod OwnChecks
-- What the functions within the crate require and ensure, and the steps of their loops
pub mod Parts
