-- The stretches that end before the day's last slot, listed as the method settles them: what the functions require and
-- ensure, and the steps of their loops. What is listed is defined in `method` (Endings) and `cause_lines` (Entries).
pub mod Steps
pub mod ListingCalls
pub mod DayCauses
pub mod StepLaws
pub mod ListingSteps
pub mod DayCauseLaws
