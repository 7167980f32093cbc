pub mod ArgumentForms
pub mod Cuts
pub mod LineForms
pub mod ReadWords
pub mod UsageSteps
pub mod VerbCommands
pub mod VerbNames
pub mod VerbTable
