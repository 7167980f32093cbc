pub mod SessionTexts
pub mod SessionItems
pub mod SessionViews
pub mod FaultEnds
pub mod SessionTurns
pub mod PrintedAnswers
pub mod WholeSessions
pub mod AnswerWords
