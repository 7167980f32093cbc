mod FolderLemmas
mod HostLemmas
