-- Definitions
pub mod LookUp
-- The theorems a reader looks for
-- Laws of the definitions
-- What the functions within the crate ensure, and the steps of their loops
pub mod Parts
