pub mod WireRequests
