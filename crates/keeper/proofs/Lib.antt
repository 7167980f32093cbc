pub mod MemoryLemmas
pub mod PairsLemmas
pub mod PutLemmas
pub mod SureLemmas
