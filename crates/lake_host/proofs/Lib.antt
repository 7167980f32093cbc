pub mod HiringLemmas
pub mod ServerLemmas
