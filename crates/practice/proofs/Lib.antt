pub mod DrawLaws
pub mod PracticeLaws
pub mod ProductLaws
pub mod SeedLaws
pub mod Theorems
