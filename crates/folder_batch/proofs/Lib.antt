pub mod DeskLemmas
pub mod OpeningLemmas
pub mod BatchLemmas
