pub mod BatchLemmas
pub mod LineCounts
pub mod MomentLemmas
pub mod SeatLemmas
