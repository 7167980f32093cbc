pub mod CommitFaults
pub mod CommitTries
pub mod CommitFlows
pub mod PickedHeads
