pub mod HookDecision
pub mod HookForms
pub mod Matching
