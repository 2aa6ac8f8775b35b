-- Definitions
pub mod Cuts
-- The theorems a reader looks for
-- What the functions require and ensure
pub mod Clauses

-- Laws
