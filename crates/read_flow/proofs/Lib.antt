pub mod LookLemmas
pub mod RoundLemmas
pub mod ServedLemmas
pub mod ReadEntryLemmas
pub mod ReadAloneLemmas
pub mod FlowLemmas
