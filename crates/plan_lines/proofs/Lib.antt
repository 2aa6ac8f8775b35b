pub mod LengthLaws
pub mod PlacingFormLaws
pub mod FeedLaws
pub mod FeedSteps
pub mod FrontLaws
