pub mod FoldLemmas
pub mod GoneLemmas
pub mod GatherLemmas
pub mod PlainLemmas
