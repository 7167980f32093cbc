pub mod SeatFlowLemmas
pub mod VersionCauseLemmas
pub mod TryLemmas
pub mod FlowEndLemmas
pub mod RetryLemmas
pub mod PausedLemmas
