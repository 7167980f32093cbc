pub mod Views
pub mod Controls
pub mod Servers
pub mod Run
pub mod OneBatches
pub mod OneGenerations
