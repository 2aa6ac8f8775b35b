pub mod DensityLaws
pub mod SpreadLaws
