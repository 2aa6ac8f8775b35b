pub mod FindLaws
pub mod FindSteps
pub mod LookUpLaws
pub mod Theorems
