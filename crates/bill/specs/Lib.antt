-- Definitions, in reading order
pub mod Bill
pub mod Tally
pub mod Numbers
