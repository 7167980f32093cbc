pub mod SmallLakeLemmas
