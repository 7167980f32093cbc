pub mod FlowSeats
pub mod FlowTries
pub mod Flows
pub mod Retries
pub mod FlowAnswers
pub mod FlowChanges
