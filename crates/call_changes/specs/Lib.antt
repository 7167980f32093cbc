pub mod AnsweredChanges
