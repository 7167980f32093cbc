pub mod HeadCauseLemmas
pub mod DraftedLemmas
pub mod SwapTryLemmas
pub mod HeadPauseLemmas
pub mod HeadBehindLemmas
pub mod SealTryLemmas
pub mod HeadServingLemmas
pub mod KeptSidesLemmas
