pub mod FieldLemmas
pub mod PageLemmas
pub mod VisibleLemmas
