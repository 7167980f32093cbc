pub mod AncestorsLemmas
pub mod ExpressionLemmas
pub mod ExpressionNameLemmas
pub mod FrontsLemmas
pub mod GraphLemmas
pub mod LogLemmas
pub mod ReadingLemmas
pub mod WalkLemmas
