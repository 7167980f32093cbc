pub mod Connections
pub mod ServedConnections
pub mod WorkerSteps
pub mod Workers
pub mod MemoryListeners
