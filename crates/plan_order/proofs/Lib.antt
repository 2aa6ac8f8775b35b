-- The steps of the loops
pub mod SlotSteps
pub mod DaySteps
pub mod OrderLaws
pub mod Theorems
pub mod WordLaws
