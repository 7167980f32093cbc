pub mod Exchanges
pub mod ServedCommands
pub mod SessionsInMemory
