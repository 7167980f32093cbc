pub mod FlowFaults
pub mod WriteTries
pub mod WriteFlows
pub mod Uploads
