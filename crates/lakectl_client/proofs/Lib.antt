pub mod AskingLemmas
pub mod CommandLemmas
