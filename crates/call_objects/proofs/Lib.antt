pub mod AnsweredLemmas
pub mod ReadingLemmas
pub mod ToldLemmas
pub mod WriteLemmas
pub mod ReadLemmas
pub mod FlowLemmas
