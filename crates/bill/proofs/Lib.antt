pub mod AmountLaws
pub mod BillLaws
pub mod Days
pub mod TallyLaws
pub mod TallySteps
pub mod Theorems
