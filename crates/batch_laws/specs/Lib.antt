pub mod ToldReplies
pub mod LikeRuns
