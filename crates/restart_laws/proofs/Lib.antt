pub mod RestartLemmas
pub mod IdLemmas
