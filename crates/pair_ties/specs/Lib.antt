pub mod BrokenPairs
pub mod Hidden
pub mod OneCommit
pub mod PairTies
pub mod Tested
