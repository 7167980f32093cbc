pub mod FailingKeepers
pub mod Keepers
