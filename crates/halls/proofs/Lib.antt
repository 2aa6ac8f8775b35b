pub mod CallLaws
pub mod HallLaws
pub mod Theorems
