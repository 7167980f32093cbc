pub mod CutLemmas
pub mod EncodingLemmas
pub mod FieldsLemmas
pub mod MetadataLemmas
pub mod ReadingLemmas
pub mod WritingLemmas
