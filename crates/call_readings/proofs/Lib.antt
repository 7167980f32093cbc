pub mod ToldLemmas
pub mod ReadingLemmas
pub mod OutcomeLemmas
pub mod IdLogLemmas
pub mod InstanceLemmas
