pub mod ControlLemmas
pub mod RunLemmas
pub mod ServerLemmas
pub mod StatusLemmas
pub mod OneBatchLemmas
pub mod LocalLemmas
pub mod OneGenerationLemmas
