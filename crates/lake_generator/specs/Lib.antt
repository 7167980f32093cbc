pub mod Counting
pub mod Generated
pub mod GeneratedLines
pub mod MainHead
pub mod Report
pub mod RunLines
pub mod Serving
