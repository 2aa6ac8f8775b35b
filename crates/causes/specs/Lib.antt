-- Definitions, in reading order
pub mod CauseCalls
pub mod ReadCauses
-- Laws of the definitions
pub mod ReadCauseLaws
pub mod EndingLaws
-- What the function ensures
pub mod CauseAnswers
