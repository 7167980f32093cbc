pub mod Bodies
pub mod HeadFields
pub mod MetadataFields
