pub mod ReadingLemmas
pub mod ReadyLemmas
pub mod WaitingLemmas
