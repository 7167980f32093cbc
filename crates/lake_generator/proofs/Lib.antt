pub mod DefaultLemmas
pub mod GenerateLemmas
pub mod HeadLemmas
pub mod LineCountLemmas
pub mod LineLemmas
pub mod ServingLemmas
