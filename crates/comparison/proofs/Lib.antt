pub mod CompareSteps
pub mod ListingLaws
pub mod Theorems
