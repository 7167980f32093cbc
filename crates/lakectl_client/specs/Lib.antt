pub mod Dialing
pub mod AskedServers
pub mod ClientCommands
