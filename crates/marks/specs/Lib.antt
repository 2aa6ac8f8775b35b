-- Slot marks, and their counts. Each file's head says in a sentence what it is about.
-- Definitions
pub mod Marks
pub mod Counts
-- That the marks in a window are the difference of two counts
-- What the functions within the crate require, and the steps of their loops
pub mod Parts
