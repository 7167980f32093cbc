pub mod Filled
pub mod Fillings
pub mod Gathered
