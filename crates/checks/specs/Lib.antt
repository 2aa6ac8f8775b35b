-- Definitions, in reading order
pub mod Limits
pub mod Refusals
pub mod FaultNumbers
pub mod Sheet
pub mod Checks
pub mod Verdicts
pub mod CallChecks
-- Laws of the definitions
pub mod RangeLaws
pub mod NumbersLaws
pub mod SheetLaws
pub mod FirstFaultyLaws
pub mod FaultLaws
pub mod RangeProps
pub mod WellFormedLaws
pub mod EarlyClosingLaws
-- What the functions within the crate are given, and the steps of their loops
pub mod Parts
pub mod CheckSteps
pub mod ValueSteps
