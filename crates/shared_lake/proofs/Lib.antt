pub mod SeatLemmas
pub mod SendLemmas
