pub mod FolderLemmas
pub mod SeatLemmas
