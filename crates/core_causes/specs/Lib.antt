pub mod Asking
pub mod Clashing
pub mod Finding
pub mod Guarding
