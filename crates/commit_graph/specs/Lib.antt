pub mod Adding
pub mod CommitReading
pub mod Expressions
pub mod Fronts
pub mod Graphs
pub mod Moves
pub mod Scanning
