pub mod Joined
pub mod Layers
pub mod Looking
pub mod Overlay
pub mod Record
pub mod TokenRows
pub mod Tokens
