pub mod DayLaws
pub mod SettlingLaws
