pub mod LikeLemmas
pub mod PlainLemmas
pub mod TroubleLemmas
pub mod ExpiryFreeLemmas
pub mod ClashLemmas
