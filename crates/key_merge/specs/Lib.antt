pub mod Refusal
pub mod MergeWalk
