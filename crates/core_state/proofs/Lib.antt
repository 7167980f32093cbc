pub mod FilesLemmas
pub mod PlacesLemmas
mod VersionLemmas
