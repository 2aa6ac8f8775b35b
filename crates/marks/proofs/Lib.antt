pub mod CountLaws
pub mod EveryLaws
pub mod MarkSteps
pub mod Theorems
