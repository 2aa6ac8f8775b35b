-- What `lowest` ensures, and what follows from it
pub mod Lowest
-- What the set bits ensure, one after another
pub mod NextBit
