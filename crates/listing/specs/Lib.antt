-- What the functions within the crate require and ensure, and the steps of their loops
pub mod Opening
pub mod HeldSteps
pub mod PlanSteps
