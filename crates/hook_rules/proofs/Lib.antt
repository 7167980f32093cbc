pub mod DecisionLemmas
pub mod MatchingLemmas
pub mod ReadingLemmas
pub mod WritingLemmas
