-- Lists, and their laws
pub mod Lists
pub mod ListLaws
pub mod ChunkLaws
pub mod FromFirst
-- What is left in a buffer, and its laws
pub mod Buffers
pub mod BufferLaws
pub mod FillLaws
-- Tests with Bool, and the bits of a word
pub mod Tests
pub mod Bits
