pub mod EncodingLemmas
pub mod FieldsLemmas
pub mod ReadingLemmas
