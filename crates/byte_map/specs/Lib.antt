pub mod Lends
pub mod MapRows
pub mod Values
