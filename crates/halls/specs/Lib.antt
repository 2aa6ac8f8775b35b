-- Definitions
pub mod Halls
-- The theorems a reader looks for
-- What the functions within the crate require and ensure, and why they do
pub mod Clauses
