-- Definitions, in reading order
pub mod Listed
pub mod Energy
pub mod Usage
pub mod Left
-- When an idle stretch is off
pub mod Theorems
-- Laws of the definitions
pub mod StretchLaws
pub mod EnergyLaws
-- The steps of loops
pub mod UsageSteps
