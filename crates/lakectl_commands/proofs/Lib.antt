pub mod SendingLemmas
pub mod ReplyLemmas
pub mod SavingLemmas
