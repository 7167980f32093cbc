pub mod FilesLemmas
pub mod FoundingLemmas
pub mod FreshPlaceLemmas
pub mod KeptLemmas
pub mod NewFilesLemmas
pub mod RemovalsLemmas
