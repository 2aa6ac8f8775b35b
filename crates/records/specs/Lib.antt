-- Definitions
pub mod Records
-- How the records are taken apart
pub mod Flat
-- Laws
pub mod FlatLaws
-- What the functions have to show
pub mod ReadSteps
