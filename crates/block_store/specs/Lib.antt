pub mod Blocks
pub mod FailingBlocks
pub mod Sure
