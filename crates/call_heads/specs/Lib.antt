pub mod ToldHeads
pub mod AnswerWords
