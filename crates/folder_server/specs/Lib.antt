pub mod Stores
pub mod FolderServers
pub mod HostWords
pub mod ServerEnds
