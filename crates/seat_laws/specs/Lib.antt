pub mod Clashes
pub mod Expiries
pub mod LikeMoments
pub mod LikeReplies
pub mod Troubles
