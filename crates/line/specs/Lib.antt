-- Definitions, in reading order
pub mod Layout
pub mod Field
pub mod Line
-- Laws of the definitions
pub mod ColumnLaws
pub mod FieldLaws
pub mod LineLaws
-- What the functions within the crate require and ensure, and the steps of their loops
pub mod Parts
pub mod PutLaws
pub mod FieldSteps
