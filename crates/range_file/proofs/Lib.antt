pub mod FaultLemmas
pub mod MemoryLemmas
pub mod ReadingLemmas
pub mod RowsLemmas
