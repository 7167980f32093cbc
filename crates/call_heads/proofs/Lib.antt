pub mod ToldHeadLemmas
pub mod AnsweredHeadLemmas
pub mod AnswerLemmas
