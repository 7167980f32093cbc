pub mod Drafts
pub mod HeadDrafts
