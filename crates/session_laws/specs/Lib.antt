pub mod LikeSessions
pub mod KnownSeats
