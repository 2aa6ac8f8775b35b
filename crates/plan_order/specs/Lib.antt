-- Definitions, in reading order
pub mod Order
pub mod TotalOrder
-- The theorems a reader looks for
-- What the functions require and ensure, and laws
pub mod Clauses
