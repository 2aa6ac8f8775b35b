-- Definitions
pub mod Comparison
pub mod OnListings

-- The theorems a reader looks for
-- Laws
