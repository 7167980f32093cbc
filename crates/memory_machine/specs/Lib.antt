pub mod FilesInMemory
pub mod FoldersInMemory
pub mod HostsInMemory
pub mod NetworksInMemory
