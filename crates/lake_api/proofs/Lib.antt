pub mod ChangeLemmas
pub mod OtherCalls
pub mod AnswerLemmas
