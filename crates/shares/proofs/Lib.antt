pub mod ShareSteps
