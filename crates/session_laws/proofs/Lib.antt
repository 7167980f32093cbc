pub mod RequestPairs
pub mod SessionEnds
pub mod CallPairs
pub mod CalmCalls
pub mod OneSessionLemmas
pub mod HadBytes
pub mod KnownSeats
