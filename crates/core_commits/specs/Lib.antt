pub mod CommitNames
pub mod HeadOperations
pub mod HeadProvenance
pub mod KeptHeads
pub mod Making
pub mod ReadyHeads
pub mod Testing
