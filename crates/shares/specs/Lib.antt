-- Definitions
pub mod Shares
-- The theorems a reader looks for
pub mod Theorems
