pub mod Desks
pub mod OpenDesks
pub mod FolderBatches
pub mod FolderCommands
pub mod BatchWords
