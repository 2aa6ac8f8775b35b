-- What the programs that answer cases share. Each file's head says in a sentence what it is about.
-- The two parts of a list
pub mod Parts
-- What a filled buffer holds, and a digest
pub mod Buffers
