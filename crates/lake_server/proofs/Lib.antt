pub mod ServedConnectionsLemmas
pub mod WorkersLemmas
