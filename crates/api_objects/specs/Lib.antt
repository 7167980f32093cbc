pub mod CallSteps
pub mod ObjectForms
