pub mod OpenFaults
pub mod Opening
