pub mod AncestrySteps
pub mod MergeSteps
pub mod OrderSteps
