-- Placing demands in the slots of a day. Each file's head says in a sentence what it is about.
-- Definitions, in reading order
pub mod Slots
pub mod Schedules
pub mod Shortfall
pub mod Causes
pub mod Demands
pub mod Rest
-- The theorems a reader looks for
pub mod Meanings
-- What a search must know to answer
pub mod AsFunctions
-- Laws of the definitions
pub mod Tabulate
pub mod DemandLaws
pub mod Certificates
