pub mod Rules
pub mod Points
pub mod Served
pub mod Sessions
pub mod Placed
pub mod Alone
pub mod Examples
