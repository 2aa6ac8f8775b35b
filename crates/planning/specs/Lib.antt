-- Definitions, in reading order
pub mod Problem
pub mod Planning
pub mod ReadListing
-- The theorems a reader looks for
-- Laws of the definitions
-- What the functions within the crate require and ensure
pub mod Clauses
pub mod ReadLaws
