pub mod HeadLoopLemmas
pub mod HeadAnswerLemmas
pub mod MergeLemmas
pub mod FlowLemmas
