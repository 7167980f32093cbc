pub mod FolderFaults
pub mod FolderStatus
pub mod FolderLakes
