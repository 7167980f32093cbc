pub mod Doors
pub mod Shares
pub mod Workers
pub mod Servers
