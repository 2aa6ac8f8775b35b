pub mod CutSteps
pub mod SearchSteps
pub mod CutDemandLaws
pub mod FewerLaws
pub mod ReadLaws
pub mod ShareLaws
pub mod SpreadShareLaws
pub mod Theorems
