-- Definitions
pub mod Practice
-- The theorems a reader looks for
-- What the functions within the crate require and ensure, the laws of the draws, and the steps of the loops
pub mod Parts
