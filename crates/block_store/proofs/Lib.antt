pub mod MemoryLemmas
pub mod SureLemmas
