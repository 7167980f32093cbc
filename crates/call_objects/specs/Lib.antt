pub mod AnsweredCalls
pub mod HeldReplies
pub mod ToldFlows
pub mod CallWords
