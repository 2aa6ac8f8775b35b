-- A day planned in words, and the stretches read off its counts. Each file's head says in a sentence what it is about.
pub mod Settling
pub mod Days
pub mod FrontRunSteps
