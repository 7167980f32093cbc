pub mod FitLemmas
pub mod KeptEntryLemmas
pub mod StagedLemmas
pub mod FlowBodyLemmas
