pub mod FreshBodies
pub mod FreshLemmas
