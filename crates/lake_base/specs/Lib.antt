pub mod Clocks
pub mod Digest
pub mod Maps
pub mod Memory
pub mod Names
pub mod Outside
pub mod Troubles
