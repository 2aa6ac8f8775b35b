-- Definitions
pub mod Program
-- The theorems a reader looks for
pub mod Theorems
-- What the functions ensure
pub mod OutputLaws
pub mod ExplanationLaws
pub mod MadeSheetLaws
